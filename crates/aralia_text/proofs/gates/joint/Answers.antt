use Rattle.std.proofs.Common.{sym, ◌∙◌}
use Rattle.aralia_text.proofs.Results.{err_is}
use Rattle.aralia_text.proofs.Joints.{no_space, and_stuck, or_stuck, and_read, or_read}
use Rattle.aralia_text.proofs.gates.joint.Goals as goal

pub returns-in_err-behind-clause-stuck : goal.returns-in_err-behind-clause-stuck
returns-in_err-behind-clause-stuck c =
    err_is _ c.from_residual.result c.in_err-behind.field-0.0 c.from_residual.ensures.1
    (no_space _ _ c.in_err-behind.ensures.stuck)

pub returns-in_err-left-clause-stuck : goal.returns-in_err-left-clause-stuck
returns-in_err-left-clause-stuck c =
    err_is _ c.from_residual-in_err-left.result c.in_err-left.field-0.0 c.from_residual-in_err-left.ensures.1
    (and_stuck _ _ c.in_ok-behind.ensures.found (sym c.begins_with.ensures ∙ c.if-begins_with.true) _
    c.in_err-left.ensures.stuck)

pub returns-in_err-left-2-clause-stuck : goal.returns-in_err-left-2-clause-stuck
returns-in_err-left-2-clause-stuck c =
    err_is _ c.from_residual-in_err-left-2.result c.in_err-left-2.field-0.0 c.from_residual-in_err-left-2.ensures.1
    (or_stuck _ _ c.in_ok-behind.ensures.found (sym c.begins_with.ensures ∙ c.if-begins_with.false) _
    c.in_err-left-2.ensures.stuck)

pub returns-then-begins_with-clause-found : goal.returns-then-begins_with-clause-found
returns-then-begins_with-clause-found c = and_read _ _ c.in_ok-behind.ensures.found _ c.in_ok-left.ensures.found

pub returns-clause-found : goal.returns-clause-found
returns-clause-found c = or_read _ _ c.in_ok-behind.ensures.found _ c.in_ok-left-2.ensures.found
