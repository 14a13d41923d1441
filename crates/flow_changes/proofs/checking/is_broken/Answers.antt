use Rattle.std.proofs.Common.{◌<◌, length, sym, ◌∙◌, ap}
use Rattle.std.specs.List.{list_all}
use Rattle.ar_base.proofs.Standing.{stands_get}
use Rattle.domains.specs.declared.Value.TheVariants.{Truth}
use Rattle.std.proofs.Common.{false, rules}
use Rattle.gts_core.specs.Readings.{is_met}
use Rattle.flow_changes.proofs.Breaking.{not_reached, broken_answer, target_within}
use Rattle.flow_changes.proofs.checking.is_broken.Goals as goal

pub bounds-values-assign : goal.bounds-values-assign
bounds-values-assign c = target_within c.args.parts.now c.requires.sound c.args.assign.now c.requires.one
    c.args.values.now c.requires.total

pub returns-then-not-are_met : goal.returns-then-not-are_met
returns-then-not-are_met c = not_reached c.args.parts.now c.requires.sound c.args.assign.now c.requires.one
    c.args.values.now c.requires.total
    (ap (list_all (is_met c.args.values.now)) (sym c.deref.ensures.value) ∙ sym c.are_met.ensures
    ∙ c.if-not-are_met.true)

pub returns : goal.returns
returns c =
    let p = c.args.parts.now in
    let t = c.args.values.now in
    let a = c.args.assign.now in
    let below : a.target.n < length t = target_within p c.requires.sound a c.requires.one t c.requires.total in
    let met = ap (list_all (is_met t)) (sym c.deref.ensures.value) ∙ sym c.are_met.ensures ∙ c.if-not-are_met.false in
    let read = c.value_in.ensures in
    broken_answer p c.requires.sound a c.requires.one t c.requires.total met c.value_in.result read _
    (stands_get t a.target.n (Truth false) below) _ (search rules)
