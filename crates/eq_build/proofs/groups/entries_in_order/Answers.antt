use Rattle.std.proofs.Common.{suc, ◌<◌, length, drop, map, ap, ◌∙◌, subst}
use Rattle.eq_build.specs.Entries.{Built, entries_of, one_of_alls}
use Rattle.eq_build.specs.BuildsInside.{most_gates}
use Rattle.eq_build.specs.Views.{terms_in, gates_in, group_of}
use Rattle.eq_build.proofs.Places.{item_next}
use Rattle.eq_build.proofs.Stopping.{stops_up, entries_passed_on, group_stops}
use Rattle.eq_build.proofs.groups.entries_in_order.Goals as goal

pub returns-in_err-operand : goal.returns-in_err-operand
returns-in_err-operand c =
    let groups = c.args.groups.now in
    let i = c.loop-group.group-index in
    let group = c.group-item.result in
    let fault = c.in_err-operand.field-0.0 in
    let g = gates_in c.args.gates.now.items in
    let h = gates_in c.loop-group.gates.items in
    let left = item_next groups i group c.loop-group-test.true c.group-item.is in
    let same = ap (λ (z : Built). z.gates) c.loop-group.invariant.same
    ∙ ap (λ z. (entries_of h (map group_of z)).gates) left in
    entries_passed_on (entries_of g (map group_of groups)) c.from_residual.result fault c.one_of_alls.new.gates.items
    c.from_residual.ensures.1
    (stops_up fault
    (λ l. group_stops g h (group_of group) (map group_of groups) (map group_of (drop (suc i) groups)) same
    (subst (λ z. most_gates < length (one_of_alls h (terms_in z)).gates) c.deref.ensures.value l))
    c.in_err-operand.ensures)
