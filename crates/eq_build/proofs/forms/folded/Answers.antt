use Rattle.std.proofs.Common.{suc, ◌<◌, List, length, drop, ap, ◌∙◌, subst}
use Rattle.eq_build.specs.Entries.{folded, combined, with_step}
use Rattle.eq_build.specs.BuildsInside.{most_gates}
use Rattle.eq_build.specs.Views.{entries_in, gates_in, lists_in}
use Rattle.eq_build.specs.declared.entries.Entry.{Entry}
use Rattle.eq_build.proofs.Places.{item_next}
use Rattle.eq_build.proofs.Stopping.{stops_up, entries_passed_on, step_stops}
use Rattle.eq_build.proofs.forms.folded.Goals as goal

pub returns-in_err-next : goal.returns-in_err-next
returns-in_err-next c =
    let all = c.args.operands.now in
    let i = c.loop-entries.entries-index in
    let item = c.entries-item.result in
    let fault = c.in_err-next.field-0.0 in
    let g = gates_in c.args.gates.now.items in
    let h = gates_in c.loop-entries.gates.items in
    let xs = entries_in c.args.start.now in
    let ys = entries_in c.loop-entries.so_far.items in
    let left = item_next all i item c.loop-entries-test.true c.entries-item.is in
    let same = c.loop-entries.invariant.same ∙ ap (λ z. folded h ys (with_step c.args.step (lists_in z))) left in
    entries_passed_on (folded g xs (with_step c.args.step (lists_in all))) c.from_residual-in_err-next.result fault
    c.combined.new.gates.items
    c.from_residual-in_err-next.ensures.1
    (stops_up fault
    (λ l. step_stops g h xs ys (with_step c.args.step (lists_in all))
    (with_step c.args.step (lists_in (drop (suc i) all))) (c.args.step, entries_in item.items) same
    (subst (λ (z : List Entry). most_gates < length (combined c.args.step h ys (entries_in z)).gates)
    c.deref-in-loop-entries.ensures.value
    (subst (λ (z : List Entry). most_gates < length (combined c.args.step h (entries_in z)
    (entries_in c.deref-in-loop-entries.result.now)).gates) c.deref.ensures.value l)))
    c.in_err-next.ensures)
