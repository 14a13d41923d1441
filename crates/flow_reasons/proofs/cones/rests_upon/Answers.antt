use Rattle.std.proofs.Common.{List, ltb, rules, sym, subst}
use Rattle.std.proofs.lemmas.List.Sorted.{IsPartitionPoint-from_clause, IsPartitionedBy-ltb}
use Rattle.ar_base.specs.Lists.{Stands}
use Rattle.ar_base.proofs.Standing.{stands_item}
use Rattle.ar_base.specs.Numbers.{VarId}
use Rattle.flow_reasons.specs.Answers.{numbers_of, reasons_of}
use Rattle.flow_reasons.specs.Cones.{AreRestsUpon}
use Rattle.flow_reasons.specs.declared.reason.Reason.{Reason}
use Rattle.flow_reasons.proofs.Followed.{flows_rise, rests_none, rests_chosen}
use Rattle.flow_reasons.proofs.cones.rests_upon.Goals as goal

pub returns-then-place-reasons : goal.returns-then-place-reasons
returns-then-place-reasons c =
    let order = c.requires.1 in
    let low = IsPartitionPoint-from_clause (λ (r : Reason). ltb r.flow.n c.args.variable) _ _
    c.partition_point-place.ensures.partitioned
    (IsPartitionedBy-ltb (λ (r : Reason). r.flow.n) _ c.args.variable
    (flows_rise c.args.reasons.now c.requires.0 order)) (λ a r q k. search rules) in
    let st : Stands c.args.reasons.now c.partition_point-place.result c.index-reasons-place.result =
    stands_item c.args.reasons.now c.partition_point-place.result c.index-reasons-place.result
    c.if-place-reasons.true c.index-reasons-place.is in
    subst (λ (z : List VarId). AreRestsUpon (reasons_of c.args.reasons.now) c.args.variable (numbers_of z))
    (sym c.rests_of.ensures)
    (rests_chosen c.args.reasons.now c.args.variable c.partition_point-place.result c.requires.0 order low
    c.index-reasons-place.result st)

pub returns-else-place-reasons : goal.returns-else-place-reasons
returns-else-place-reasons c =
    let order = c.requires.1 in
    let low = IsPartitionPoint-from_clause (λ (r : Reason). ltb r.flow.n c.args.variable) _ _
    c.partition_point-place.ensures.partitioned
    (IsPartitionedBy-ltb (λ (r : Reason). r.flow.n) _ c.args.variable
    (flows_rise c.args.reasons.now c.requires.0 order)) (λ a r q k. search rules) in
    rests_none c.args.reasons.now c.args.variable c.partition_point-place.result c.requires.0 order low
    c.if-place-reasons.false
