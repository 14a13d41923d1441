use Rattle.std.proofs.Common.{ltb, rules}
use Rattle.std.proofs.lemmas.List.Sorted.{IsPartitionPoint-from_clause, IsPartitionedBy-ltb}
use Rattle.flow_propagate.specs.Runs.{Reader}
use Rattle.flow_propagate.proofs.PairRuns.{is_start}
use Rattle.flow_propagate.proofs.pairs.start_of.Goals as goal

pub returns : goal.returns
returns c =
    let x = c.args.variable in
    let point = IsPartitionPoint-from_clause (λ (r : Reader). ltb r.0.n x) _ _ c.partition_point.ensures.partitioned
    (IsPartitionedBy-ltb (λ (r : Reader). r.0.n) _ x c.requires) (λ a r q k. search rules) in
    is_start c.args.pairs.now x c.partition_point.result point c.partition_point.ensures.bound
