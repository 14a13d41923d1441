use Rattle.std.proofs.Common.{suc, ◌<◌, ◌++◌, length, drop, ap, ◌∙◌, subst}
use Rattle.eq_core.specs.Gates.{all_of}
use Rattle.eq_build.specs.Entries.{all_of_each, one_of_alls}
use Rattle.eq_build.specs.BuildsInside.{most_gates}
use Rattle.eq_build.specs.Views.{terms_in, operands_in, gates_in}
use Rattle.eq_build.proofs.Places.{item_next}
use Rattle.eq_build.proofs.Stopping.{stops_up, operand_passed_on, term_stops}
use Rattle.eq_build.proofs.entries.one_of_alls.Goals as goal

pub returns-in_err-operand : goal.returns-in_err-operand
returns-in_err-operand c =
    let terms = c.args.terms.now in
    let i = c.loop-term.term-index in
    let term = c.term-item.result in
    let fault = c.in_err-operand.field-0.0 in
    let g = gates_in c.args.gates.now.items in
    let h = gates_in c.loop-term.gates.items in
    let out = operands_in c.loop-term.all.items in
    let left = item_next terms i term c.loop-term-test.true c.term-item.is in
    let same = c.loop-term.invariant.same
    ∙ ap (λ z. let r = all_of_each h (terms_in z) in record { operands = out ++ r.operands; gates = r.gates }) left in
    operand_passed_on (one_of_alls g (terms_in terms)) c.from_residual.result fault c.made.new.gates.items
    c.from_residual.ensures.1
    (stops_up fault
    (λ l. term_stops g h (terms_in terms) (terms_in (drop (suc i) terms)) (operands_in term.items) out same
    (subst (λ z. most_gates < length (all_of h (operands_in z)).gates) c.deref.ensures.value l))
    c.in_err-operand.ensures)
