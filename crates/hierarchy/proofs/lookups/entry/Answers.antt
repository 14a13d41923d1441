use Rattle.std.proofs.Common.{rules, ltb, sym}
use Rattle.std.proofs.lemmas.List.Sorted.{IsPartitionPoint-from_clause, IsPartitionedBy-ltb}
use Rattle.hierarchy.specs.Finding.{entry_name}
use Rattle.hierarchy.proofs.Finding.{found_there, absent_there, absent_past, item_stands}
use Rattle.hierarchy.proofs.lookups.entry.Goals as goal

pub returns-in-Some : goal.returns-in-Some
returns-in-Some c = λ a.
    let low = IsPartitionPoint-from_clause (λ y. ltb (entry_name y) c.args.name.n) _ _
    c.partition_point-at.ensures.partitioned (IsPartitionedBy-ltb entry_name _ c.args.name.n a)
    (λ a r q k. search rules) in
    sym (found_there c.args.entries.now c.args.name.n c.partition_point-at.result low c.in-Some.found.now
    (item_stands c.args.entries.now c.partition_point-at.result c.in-Some.found.now c.in-Some.ensures.lookup.0
    c.in-Some.ensures.lookup.1) c.if-found-name.true)

pub returns-in_default : goal.returns-in_default
returns-in_default c = λ a.
    let low = IsPartitionPoint-from_clause (λ y. ltb (entry_name y) c.args.name.n) _ _
    c.partition_point-at.ensures.partitioned (IsPartitionedBy-ltb entry_name _ c.args.name.n a)
    (λ a r q k. search rules) in
    sym (absent_there c.args.entries.now c.args.name.n c.partition_point-at.result low a c.in-Some.found.now
    (item_stands c.args.entries.now c.partition_point-at.result c.in-Some.found.now c.in-Some.ensures.lookup.0
    c.in-Some.ensures.lookup.1) c.if-found-name.false)

pub returns-in_default-2 : goal.returns-in_default-2
returns-in_default-2 c = λ a.
    let low = IsPartitionPoint-from_clause (λ y. ltb (entry_name y) c.args.name.n) _ _
    c.partition_point-at.ensures.partitioned (IsPartitionedBy-ltb entry_name _ c.args.name.n a)
    (λ a r q k. search rules) in
    sym (absent_past c.args.entries.now c.args.name.n c.partition_point-at.result low
    (search (rules, c.get.ensures.lookup)))
