use Rattle.std.proofs.Common.{suc, ◌<◌, List, length, drop, ap, ◌∙◌, subst}
use Rattle.eq_build.specs.Entries.{folded, combined, with_signs}
use Rattle.eq_build.specs.BuildsInside.{most_gates}
use Rattle.eq_build.specs.Views.{entries_in, gates_in, signed_parts_in}
use Rattle.eq_build.specs.declared.entries.Entry.{Entry}
use Rattle.eq_build.specs.declared.steps.Step.TheVariants.{Part}
use Rattle.eq_build.proofs.Places.{item_next}
use Rattle.eq_build.proofs.Stopping.{stops_up, entries_passed_on, step_stops}
use Rattle.eq_build.proofs.forms.summed.Goals as goal

pub returns-in_err-next : goal.returns-in_err-next
returns-in_err-next c =
    let all = c.args.parts.now in
    let i = c.loop-plus.plus-index in
    let item = c.loop-plus-item.result in
    let fault = c.in_err-next.field-0.0 in
    let g = gates_in c.args.gates.now.items in
    let h = gates_in c.loop-plus.gates.items in
    let xs = entries_in c.args.start.now in
    let ys = entries_in c.loop-plus.so_far.items in
    let left = item_next all i item c.loop-plus-test.true c.loop-plus-item.is in
    let same = c.loop-plus.invariant.same ∙ ap (λ z. folded h ys (with_signs (signed_parts_in z))) left in
    entries_passed_on (folded g xs (with_signs (signed_parts_in all))) c.from_residual-in_err-next.result fault
    c.combined.new.gates.items
    c.from_residual-in_err-next.ensures.1
    (stops_up fault
    (λ l. step_stops g h xs ys (with_signs (signed_parts_in all)) (with_signs (signed_parts_in (drop (suc i) all)))
    (Part item.0, entries_in item.1.items) same
    (subst (λ (z : List Entry). most_gates < length (combined (Part item.0) h ys (entries_in z)).gates)
    c.deref-in-loop-plus.ensures.value
    (subst (λ (z : List Entry). most_gates < length (combined (Part item.0) h (entries_in z)
    (entries_in c.deref-in-loop-plus.result.now)).gates) c.deref.ensures.value l)))
    c.in_err-next.ensures)
