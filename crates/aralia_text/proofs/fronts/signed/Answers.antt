use Rattle.std.proofs.Common.{sym, ◌∙◌}
use Rattle.aralia_text.proofs.Results.{err_is}
use Rattle.aralia_text.proofs.Operands.{event_read, gate_read, event_stuck, gate_stuck}
use Rattle.aralia_text.proofs.fronts.signed.Goals as goal

pub returns-in_err-gate-clause-stuck : goal.returns-in_err-gate-clause-stuck
returns-in_err-gate-clause-stuck c =
    err_is _ c.from_residual.result c.in_err-gate.field-0.0 c.from_residual.ensures.1 (λ some.
    gate_stuck c.args.gates _ _ _ _ (record { joined = c.sign-sign.ensures.joined; plain = c.sign-sign.ensures.plain })
    some _ (sym c.begins_with.ensures ∙ c.if-begins_with.true) c.in_err-gate.ensures.stuck)

pub returns-in_err-event-clause-stuck : goal.returns-in_err-event-clause-stuck
returns-in_err-event-clause-stuck c =
    err_is _ c.from_residual-in_err-event.result c.in_err-event.field-0.0 c.from_residual-in_err-event.ensures.1
    (λ some.
    event_stuck c.args.gates _ _ _ _ (record { joined = c.sign-sign.ensures.joined; plain = c.sign-sign.ensures.plain })
    some _ (sym c.begins_with.ensures ∙ c.if-begins_with.false) c.in_err-event.ensures.stuck)

pub returns-then-begins_with-clause-found : goal.returns-then-begins_with-clause-found
returns-then-begins_with-clause-found c =
    gate_read c.args.gates _ _ _ _ (record { joined = c.sign-sign.ensures.joined; plain = c.sign-sign.ensures.plain }) _
    _ c.in_ok-gate.ensures.found

pub returns-clause-found : goal.returns-clause-found
returns-clause-found c =
    event_read c.args.gates _ _ _ _ (record { joined = c.sign-sign.ensures.joined; plain = c.sign-sign.ensures.plain })
    _ _ c.in_ok-event.ensures.found
