use Rattle.std.proofs.Common.{◌<◌, ⊎_elim, inl, inr, Err, [], length, get_or, sym, ap, ◌∙◌, subst}
use Rattle.std.proofs.lemmas.Result.{err_from_is_err_and}
use Rattle.ar_base.proofs.Standing.{stands_get}
use Rattle.eq_core.specs.ValuesInside.{IsBelow}
use Rattle.eq_core.specs.Views.{operand_of}
use Rattle.mode_nodes.specs.Diagrams.{DiagramId}
use Rattle.mode_diagrams.specs.Agreement.{HasOperandValues}
use Rattle.mode_diagrams.proofs.Laws.{agrees_always, agrees_never, agrees_event, agrees_gate}
use Rattle.mode_diagrams.proofs.Placing.{lacks_event}
use Rattle.mode_diagrams.proofs.gates.operand_diagram.Goals as goal

abbrev false_number : DiagramId
false_number = record { n = 0; of = record {} }

pub returns-in-Always-clause-agrees : goal.returns-in-Always-clause-agrees
returns-in-Always-clause-agrees c = λ gates ready.
    subst (λ o. HasOperandValues c.args.trees.now gates (operand_of o) c.args.store.now c.new.result.n) (sym c.in-Always.is)
    (agrees_always c.args.trees.now gates c.args.store.now c.new.result.n c.new.ensures)

pub returns-in-Never-clause-agrees : goal.returns-in-Never-clause-agrees
returns-in-Never-clause-agrees c = λ gates ready.
    subst (λ o. HasOperandValues c.args.trees.now gates (operand_of o) c.args.store.now c.new-in-Never.result.n) (sym c.in-Never.is)
    (agrees_never c.args.trees.now gates c.args.store.now c.new-in-Never.result.n c.new-in-Never.ensures)

pub signed-requires : goal.signed-requires
signed-requires c = (c.in_ok-plain-in-Event.ensures.agrees []).number

pub returns-in_ok-signed-in-Event-clause-agrees : goal.returns-in_ok-signed-in-Event-clause-agrees
returns-in_ok-signed-in-Event-clause-agrees c = λ gates ready.
    subst (λ o. HasOperandValues c.args.trees.now gates (operand_of o) c.signed.new.store c.in_ok-signed-in-Event.field-0.n)
    (sym c.in-Event.is)
    (agrees_event c.args.trees.now gates c.in-Event.event.n c.in-Event.sign c.event_diagram.new.store c.signed.new.store
    c.in_ok-plain-in-Event.plain.n c.in_ok-signed-in-Event.field-0.n c.in_ok-signed-in-Event.ensures.grows (c.in_ok-plain-in-Event.ensures.agrees gates)
    c.in_ok-signed-in-Event.ensures.signed)

pub signed-requires-in-Gate : goal.signed-requires-in-Gate
signed-requires-in-Gate c =
    let g = c.in-Gate.gate.n in
    let inside : g < length c.args.table.now =
    subst (λ o. IsBelow (length c.args.table.now) (operand_of o)) c.in-Gate.is c.requires.below in
    c.requires.table.each g (get_or c.args.table.now g false_number) (stands_get c.args.table.now g false_number inside)

pub returns-in_ok-signed-in-Gate-clause-agrees : goal.returns-in_ok-signed-in-Gate-clause-agrees
returns-in_ok-signed-in-Gate-clause-agrees c = λ gates ready.
    let g = c.in-Gate.gate.n in
    let table = c.args.table.now in
    let inside : g < length table =
    subst (λ o. IsBelow (length table) (operand_of o)) c.in-Gate.is c.requires.below in
    let at = stands_get table g false_number inside in
    subst (λ o. HasOperandValues c.args.trees.now gates (operand_of o) c.signed-in-Gate.new.store c.in_ok-signed-in-Gate.field-0.n)
    (sym c.in-Gate.is)
    (agrees_gate c.args.trees.now gates g c.in-Gate.sign c.args.store.now c.signed-in-Gate.new.store
    (get_or table g false_number).n c.in_ok-signed-in-Gate.field-0.n c.in_ok-signed-in-Gate.ensures.grows
    (ready.gate g c.in-Gate.sign (get_or table g false_number) (ap operand_of c.in-Gate.is) at)
    c.in_ok-signed-in-Gate.ensures.signed)

pub returns-in-Always-clause-known : goal.returns-in-Always-clause-known
returns-in-Always-clause-known c = λ l. let w = sym (ap operand_of c.in-Always.is) ∙ l.is in let x : ⊥ = cc in x

pub returns-in-Never-clause-known : goal.returns-in-Never-clause-known
returns-in-Never-clause-known c = λ l. let w = sym (ap operand_of c.in-Never.is) ∙ l.is in let x : ⊥ = cc in x

pub returns-in_err-plain-in-Event-clause-beyond : goal.returns-in_err-plain-in-Event-clause-beyond
returns-in_err-plain-in-Event-clause-beyond c = λ e.
    let p = err_from_is_err_and c.from_residual.result c.from_residual.ensures.1 in
    ⊎_elim
    (λ f. inl f)
    (λ n. inr (record {
      event = c.in-Event.event.n;
      sign = c.in-Event.sign;
      is = ap operand_of c.in-Event.is;
      none = n;
    }))
    (c.in_err-plain-in-Event.ensures.beyond (ap Err (sym p.2) ∙ sym p.1 ∙ e))

pub returns-in_ok-signed-in-Event-clause-known : goal.returns-in_ok-signed-in-Event-clause-known
returns-in_ok-signed-in-Event-clause-known c =
    lacks_event c.args.trees.now (operand_of c.args.operand) c.in-Event.event.n c.in-Event.sign
    (ap operand_of c.in-Event.is) c.in_ok-plain-in-Event.ensures.known

pub returns-in_ok-signed-in-Gate-clause-known : goal.returns-in_ok-signed-in-Gate-clause-known
returns-in_ok-signed-in-Gate-clause-known c = λ l.
    let w = sym (ap operand_of c.in-Gate.is) ∙ l.is in let x : ⊥ = cc in x
