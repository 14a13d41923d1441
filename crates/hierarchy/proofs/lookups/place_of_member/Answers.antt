use Rattle.std.proofs.Common.{rules, ◌<◌, ltb, length, arith}
use Rattle.std.proofs.lemmas.List.Sorted.{IsPartitionPoint-from_clause, IsPartitionedBy-ltb}
use Rattle.hierarchy.specs.declared.tree.MemNode.{MemNode}
use Rattle.hierarchy.proofs.Finding.{node_found, none_found, run_ends, none_more, past_end}
use Rattle.hierarchy.proofs.lookups.place_of_member.Goals as goal

pub loop-place-init : goal.loop-place-init
loop-place-init c = λ k d f l p e. omega (arith, f, l)

pub returns-then-node-unit : goal.returns-then-node-unit
returns-then-node-unit c =
    let low = IsPartitionPoint-from_clause (λ (d : MemNode). ltb d.unit.n c.args.unit.n) _ _
    c.partition_point-from.ensures.partitioned
    (IsPartitionedBy-ltb (λ (d : MemNode). d.unit.n) _ c.args.unit.n c.requires)
    (λ a r q k. search rules) in
    none_found (λ (d : MemNode). d) c.args.nodes.now c.args.unit.n c.args.name.n c.partition_point-from.result
    c.loop-place.place low c.loop-place.invariant
    (run_ends (λ (d : MemNode). d.unit.n) c.args.nodes.now c.args.unit.n c.partition_point-from.result low
    c.requires c.loop-place.place _ c.loop-place.auto.place c.loop-place-test.true c.if-node-unit.true)

pub returns-then-node-name : goal.returns-then-node-name
returns-then-node-name c =
    node_found (λ (d : MemNode). d) c.args.nodes.now c.args.unit.n c.args.name.n c.loop-place.place _
    c.loop-place-test.true c.if-node-unit.false c.if-node-name.true

pub loop-place-preserved : goal.loop-place-preserved
loop-place-preserved c =
    none_more (λ (d : MemNode). d.name.n) c.args.nodes.now c.args.name.n c.partition_point-from.result
    c.loop-place.place _ c.loop-place-test.true c.if-node-name.false c.loop-place.invariant

pub returns : goal.returns
returns c =
    let low = IsPartitionPoint-from_clause (λ (d : MemNode). ltb d.unit.n c.args.unit.n) _ _
    c.partition_point-from.ensures.partitioned
    (IsPartitionedBy-ltb (λ (d : MemNode). d.unit.n) _ c.args.unit.n c.requires)
    (λ a r q k. search rules) in
    none_found (λ (d : MemNode). d) c.args.nodes.now c.args.unit.n c.args.name.n c.partition_point-from.result
    c.loop-place.place low c.loop-place.invariant
    (λ k d g p q. past_end c.args.nodes.now c.loop-place.place c.loop-place-test.false k d g p)
