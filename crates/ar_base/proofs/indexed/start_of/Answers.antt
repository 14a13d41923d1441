use Rattle.std.proofs.Common.{ℕ, ltb, rules}
use Rattle.std.proofs.lemmas.List.Sorted.{IsPartitionPoint-from_clause, IsPartitionedBy-ltb}
use Rattle.ar_base.proofs.PairRuns.{is_start}
use Rattle.ar_base.proofs.indexed.start_of.Goals as goal

pub returns : goal.returns
returns c =
    let x = c.args.first in
    let point = IsPartitionPoint-from_clause (λ (r : (ℕ × ℕ)). ltb r.0 x) _ _ c.partition_point.ensures.partitioned
    (IsPartitionedBy-ltb (λ (r : (ℕ × ℕ)). r.0) _ x c.requires) (λ a r q k. search rules) in
    is_start c.args.pairs.now x c.partition_point.result point c.partition_point.ensures.bound
