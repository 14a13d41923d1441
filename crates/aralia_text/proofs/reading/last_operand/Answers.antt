use Rattle.std.proofs.Common.{sym, ◌∙◌}
use Rattle.ar_base.proofs.Results.{ok_map}
use Rattle.aralia_text.proofs.Results.{err_map, err_is}
use Rattle.aralia_text.proofs.Tables.{always_read, never_read, always_stuck, never_stuck, other_read, other_stuck}
use Rattle.aralia_text.proofs.reading.last_operand.Goals as goal

pub returns-in_err-left-clause-stuck : goal.returns-in_err-left-clause-stuck
returns-in_err-left-clause-stuck c =
    err_is _ c.from_residual.result c.in_err-left.field-0.0 c.from_residual.ensures.1
    (always_stuck c.args.gates _ _ (sym c.begins_with.ensures ∙ c.if-begins_with.true) _ c.in_err-left.ensures.stuck)

pub returns-then-begins_with-clause-found : goal.returns-then-begins_with-clause-found
returns-then-begins_with-clause-found c = always_read _ _ _ _ c.in_ok-left.ensures.found

pub returns-in_err-left-2-clause-stuck : goal.returns-in_err-left-2-clause-stuck
returns-in_err-left-2-clause-stuck c =
    err_is _ c.from_residual-in_err-left-2.result c.in_err-left-2.field-0.0 c.from_residual-in_err-left-2.ensures.1
    (never_stuck c.args.gates _ _ (sym c.begins_with-2.ensures ∙ c.if-begins_with-2.true) _
    c.in_err-left-2.ensures.stuck)

pub returns-then-begins_with-2-clause-found : goal.returns-then-begins_with-2-clause-found
returns-then-begins_with-2-clause-found c = never_read _ _ _ _ c.in_ok-left-2.ensures.found

pub returns-clause-found : goal.returns-clause-found
returns-clause-found c =
    ok_map c.operand.result
    (λ r h. other_read c.args.gates _ _ (sym c.begins_with.ensures ∙ c.if-begins_with.false)
    (sym c.begins_with-2.ensures ∙ c.if-begins_with-2.false) _ _ h) c.operand.ensures.found

pub returns-clause-stuck : goal.returns-clause-stuck
returns-clause-stuck c =
    err_map c.operand.result
    (λ stuck k. other_stuck c.args.gates _ _ (sym c.begins_with.ensures ∙ c.if-begins_with.false)
    (sym c.begins_with-2.ensures ∙ c.if-begins_with-2.false) _ k) c.operand.ensures.stuck
