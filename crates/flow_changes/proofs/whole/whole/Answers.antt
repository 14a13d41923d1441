use Rattle.std.proofs.Common.{◌≡◌, ℕ, Bool, List, length, rules, sym, ap, ◌∙◌, subst}
use Rattle.domains.specs.declared.Value.{Value}
use Rattle.gts_core.specs.Readings.{IsTotal}
use Rattle.gts_core.specs.declared.system.GtsParts.{GtsParts}
use Rattle.flow_propagate.specs.Answers.{IsState}
use Rattle.flow_propagate.specs.Determined.{IsDeterminedBy}
use Rattle.flow_propagate.specs.NewValues.{written}
use Rattle.flow_changes.specs.Known.{changing_numbers}
use Rattle.flow_changes.specs.Picking.{AreWithin, ArePicked, KeepsOthers}
use Rattle.flow_changes.specs.Restoring.{TellsChanges}
use Rattle.flow_changes.proofs.Begun.{new_inside, within_long}
use Rattle.flow_changes.proofs.Written.{written_total}
use Rattle.flow_changes.proofs.Anew.{all_within, all_picked, all_kept}
use Rattle.flow_changes.proofs.whole.whole.Goals as goal

pub renewed-requires : goal.renewed-requires
renewed-requires c = subst (λ (z : List Value). AreWithin (changing_numbers c.args.new.now) z) (sym c.deref.ensures.value)
    (within_long (changing_numbers c.args.new.now) c.args.gts.now.variables.items c.args.determined.now.values.values.items
    (sym c.requires.determined.total.long) (new_inside c.args.gts.now c.args.new.now c.requires.new))

pub determine-requires-clause-state : goal.determine-requires-clause-state
determine-requires-clause-state c =
    let old = c.args.determined.now.values.values.items in
    let total : IsTotal c.args.gts.now (written old c.args.new.now) =
    written_total c.args.gts.now old c.args.new.now c.requires.new.each c.requires.determined.total in
    let e : c.in_ok-state.state.values.items ≡ written old c.args.new.now =
    c.in_ok-state.ensures ∙ ap (λ (z : List Value). written z c.args.new.now) c.deref.ensures.value in
    subst (λ (z : List Value). IsState c.args.gts.now z) (sym e)
    (record { long = total.long; in_domain = λ n x v sx is sv. total.in_domain n x v sx sv })

pub changes_at-requires-clause-within : goal.changes_at-requires-clause-within
changes_at-requires-clause-within c =
    let numbers = c.in_ok-numbers.numbers.items in
    let long : length numbers ≡ length c.parts-parts.result.now.variables.items = (let l : c.len.result ≡ length c.parts-parts.result.now.variables.items = search rules in c.in_ok-numbers.ensures.long ∙ l) in
    subst (λ (z : List ℕ). AreWithin z c.parts-parts.result.now.variables.items) (sym c.deref-2.ensures.value)
    (all_within numbers c.in_ok-numbers.ensures.each c.parts-parts.result.now.variables.items long)

pub returns-clause-ok : goal.returns-clause-ok
returns-clause-ok c =
    let p = c.args.gts.now in
    let old = c.args.determined.now.values.values.items in
    let old_known = c.args.determined.now.known.items in
    let new = c.args.new.now in
    let after = c.in_ok-after.after in
    let numbers = c.in_ok-numbers.numbers.items in
    let count : length numbers ≡ length p.variables.items = (let l : c.len.result ≡ length c.parts-parts.result.now.variables.items = search rules in c.in_ok-numbers.ensures.long ∙ l ∙ ap (λ (z : GtsParts). length z.variables.items) c.parts-parts.ensures.parts) in
    let each = c.in_ok-numbers.ensures.each in
    let e : c.in_ok-state.state.values.items ≡ written old new =
    c.in_ok-state.ensures ∙ ap (λ (z : List Value). written z new) c.deref.ensures.value in
    let by = subst (λ (z : List Value). IsDeterminedBy p z after.values.values.items after.known.items) e
    c.in_ok-after.ensures in
    let total = c.requires.determined.total in
    let long : length numbers ≡ length old = count ∙ sym total.long in
    let known_long : length numbers ≡ length old_known = count ∙ sym c.requires.determined.long in
    let picked = subst (λ (z : List ℕ). ArePicked z old c.deref-3.result.now) (sym c.deref-2.ensures.value)
    (subst (λ (z : List Value). ArePicked numbers old z) (sym c.deref-3.ensures.value)
    (all_picked numbers each old long)) in
    let picked_known = subst (λ (z : List ℕ). ArePicked z old_known c.deref-4.result.now) (sym c.deref-2.ensures.value)
    (subst (λ (z : List Bool). ArePicked numbers old_known z) (sym c.deref-4.ensures.value)
    (all_picked numbers each old_known known_long)) in
    let kept = subst (λ (z : List ℕ). KeepsOthers z old c.deref-5.result.now) (sym c.deref-2.ensures.value)
    (subst (λ (z : List Value). KeepsOthers numbers old z) (sym c.deref-5.ensures.value)
    (all_kept numbers each old after.values.values.items long (by.is.total.long ∙ sym total.long))) in
    let kept_known = subst (λ (z : List ℕ). KeepsOthers z old_known c.deref-6.result.now) (sym c.deref-2.ensures.value)
    (subst (λ (z : List Bool). KeepsOthers numbers old_known z) (sym c.deref-6.ensures.value)
    (all_kept numbers each old_known after.known.items known_long
    (by.is.long ∙ sym c.requires.determined.long))) in
    let total_there = subst (λ (z : GtsParts). IsTotal z old) (sym c.parts-parts.ensures.parts) total in
    let total_then = subst (λ (z : GtsParts). IsTotal z c.deref-5.result.now) (sym c.parts-parts.ensures.parts)
    (subst (λ (z : List Value). IsTotal p z) (sym c.deref-5.ensures.value) by.is.total) in
    let told = c.in_ok-changes.ensures old old_known picked picked_known kept kept_known total_there total_then in
    record {
      determined = by;
      tells = subst (λ (z : GtsParts). TellsChanges z old old_known after.values.values.items after.known.items
          c.in_ok-changes.changes) c.parts-parts.ensures.parts
          (subst (λ (z : List Value). TellsChanges c.parts-parts.result.now old old_known z after.known.items
          c.in_ok-changes.changes) c.deref-5.ensures.value
          (subst (λ (z : List Bool). TellsChanges c.parts-parts.result.now old old_known c.deref-5.result.now z
          c.in_ok-changes.changes) c.deref-6.ensures.value told));
    }
