use Rattle.std.proofs.Common.{◌≡◌, Bool, List, [], length, get_or, rules, sym, ap, ◌∙◌, subst, arith}
use Rattle.ar_base.specs.Lists.{Stands, IsOneOf}
use Rattle.ar_base.specs.Numbers.{VarId}
use Rattle.ar_base.proofs.Standing.{stands_item, stands_one, one_here}
use Rattle.gts_core.specs.View.{net_of, numbered}
use Rattle.gts_core.specs.declared.system.Observer.{Observer}
use Rattle.gts_core.specs.declared.system.GtsParts.{GtsParts}
use Rattle.gts_core.proofs.Viewing.{variables_long}
use Rattle.flow_reasons.specs.ReasonsInside.{IsReasonCone}
use Rattle.flow_reasons.specs.Answers.{numbers_of, reasons_of}
use Rattle.flow_reasons.specs.Cones.{AreOrderly, AreMembers, AreReachedVariables}
use Rattle.flow_reasons.proofs.Gathering.{variables_as}
use Rattle.flow_reasons.proofs.Followed.{orderly, first_below, is_cone, names_numbers}
use Rattle.flow_reasons.proofs.cones.cone.Goals as goal

pub reached-requires-clause-orderly : goal.reached-requires-clause-orderly
reached-requires-clause-orderly c =
    let p = c.args.gts.now in
    let whole : c.len.result ≡ length c.parts-parts.result.now.variables.items = search rules in
    let e : length (net_of p).variables ≡ c.len.result =
    variables_long 0 p.variables.items
    ∙ (ap (λ (z : GtsParts). length z.variables.items) (sym c.parts-parts.ensures.parts) ∙ sym whole) in
    subst (λ n. AreOrderly n (reasons_of c.args.reasons.now)) e
    (orderly (net_of p) c.requires.reasons.values (reasons_of c.args.reasons.now) c.requires.reasons.are)

pub reached-requires-clause-below : goal.reached-requires-clause-below
reached-requires-clause-below c = λ n i.
    let p = c.args.gts.now in
    let o = c.index.result.now in
    let whole : c.len.result ≡ length c.parts-parts.result.now.variables.items = search rules in
    let e = ap (λ (z : GtsParts). length z.variables.items) c.parts-parts.ensures.parts in
    let st : Stands p.observers.items c.args.observer o =
    stands_item p.observers.items c.args.observer o c.requires.range
    (subst (λ (z : GtsParts). o ≡ get_or z.observers.items c.args.observer o) c.parts-parts.ensures.parts
    c.index.ensures) in
    let h = first_below p c.parts-parts.ensures.sound o (one_here p.observers.items c.args.observer o st) []
    (numbers_of c.add_named.new.found.items)
    (names_numbers o.value c.new-first.result.items c.add_named.new.found.items c.new-first.ensures.items
    c.in_ok-add_named.ensures) n
    (subst (λ (z : List VarId). IsOneOf (numbers_of z) n) c.deref.ensures.value i) in
    omega (arith, h, whole, e)

pub returns : goal.returns
returns c = λ one so.
    let p = c.args.gts.now in
    let o = c.index.result.now in
    let rs = reasons_of c.args.reasons.now in
    let first = numbers_of c.add_named.new.found.items in
    let seen = c.in_ok-seen.seen.items in
    let whole : c.len.result ≡ length c.parts-parts.result.now.variables.items = search rules in
    let e : c.len.result ≡ length p.variables.items =
    whole ∙ ap (λ (z : GtsParts). length z.variables.items) c.parts-parts.ensures.parts in
    let st : Stands p.observers.items c.args.observer o =
    stands_item p.observers.items c.args.observer o c.requires.range
    (subst (λ (z : GtsParts). o ≡ get_or z.observers.items c.args.observer o) c.parts-parts.ensures.parts
    c.index.ensures) in
    let order = subst (λ n. AreOrderly n rs) (variables_long 0 p.variables.items)
    (orderly (net_of p) c.requires.reasons.values rs c.requires.reasons.are) in
    let reached = subst (λ (z : List VarId). AreReachedVariables rs (numbers_of z) seen) c.deref.ensures.value
    c.in_ok-seen.ensures.reached in
    variables_as _ _ c.members.result
    (λ v h. subst (λ (z : Observer). IsReasonCone (net_of p) rs (numbered z.value) (numbers_of v.items))
    (stands_one p.observers.items c.args.observer o one st so)
    (is_cone p c.parts-parts.ensures.sound o (one_here p.observers.items c.args.observer o st) rs first
    (names_numbers o.value c.new-first.result.items c.add_named.new.found.items c.new-first.ensures.items
    c.in_ok-add_named.ensures) seen (numbers_of v.items)
    (c.in_ok-seen.ensures.long ∙ e) order reached
    (subst (λ (z : List Bool). AreMembers z (length z) (numbers_of v.items)) c.deref-2.ensures.value h)))
    c.members.ensures
