use Rattle.std.proofs.Common.{sym, ◌∙◌, arith}
use Rattle.std.proofs.lemmas.Bool.{eqb-true}
use Rattle.aralia_text.proofs.Results.{err_is}
use Rattle.aralia_text.proofs.Tables.{no_conflict, conflict_stuck, no_top, top_stuck, no_end, more_behind, both_read}
use Rattle.aralia_text.proofs.reading.last_lines.Goals as goal

pub returns-in_err-behind-clause-stuck : goal.returns-in_err-behind-clause-stuck
returns-in_err-behind-clause-stuck c =
    err_is _ c.from_residual.result c.in_err-behind.field-0.0 c.from_residual.ensures.1
    (no_conflict c.args.gates _ _ _ c.in_err-behind.ensures.stuck)

pub returns-in_err-conflict-clause-stuck : goal.returns-in_err-conflict-clause-stuck
returns-in_err-conflict-clause-stuck c =
    err_is _ c.from_residual-in_err-conflict.result c.in_err-conflict.field-0.0
    c.from_residual-in_err-conflict.ensures.1
    (conflict_stuck c.args.gates _ _ _ c.in_ok-behind.ensures.found _ c.in_err-conflict.ensures.stuck)

pub returns-in_err-behind-2-clause-stuck : goal.returns-in_err-behind-2-clause-stuck
returns-in_err-behind-2-clause-stuck c =
    err_is _ c.from_residual-in_err-behind-2.result c.in_err-behind-2.field-0.0
    c.from_residual-in_err-behind-2.ensures.1
    (no_top c.args.gates _ _ _ c.in_ok-behind.ensures.found _ _ c.in_ok-conflict.ensures.found _
    c.in_err-behind-2.ensures.stuck)

pub returns-in_err-top-clause-stuck : goal.returns-in_err-top-clause-stuck
returns-in_err-top-clause-stuck c =
    err_is _ c.from_residual-in_err-top.result c.in_err-top.field-0.0 c.from_residual-in_err-top.ensures.1
    (top_stuck c.args.gates _ _ _ c.in_ok-behind.ensures.found _ _ c.in_ok-conflict.ensures.found _
    c.in_ok-behind-2.ensures.found _ c.in_err-top.ensures.stuck)

pub returns-in_err-behind-3-clause-stuck : goal.returns-in_err-behind-3-clause-stuck
returns-in_err-behind-3-clause-stuck c =
    err_is _ c.from_residual-in_err-behind-3.result c.in_err-behind-3.field-0.0
    c.from_residual-in_err-behind-3.ensures.1
    (no_end c.args.gates _ _ _ c.in_ok-behind.ensures.found _ _ c.in_ok-conflict.ensures.found _
    c.in_ok-behind-2.ensures.found _ _ c.in_ok-top.ensures.found _ c.in_err-behind-3.ensures.stuck)

pub returns-then-is_empty-clause-found : goal.returns-then-is_empty-clause-found
returns-then-is_empty-clause-found c =
    both_read c.args.gates _ _ _ c.in_ok-behind.ensures.found _ _ c.in_ok-conflict.ensures.found _
    c.in_ok-behind-2.ensures.found _ _ c.in_ok-top.ensures.found _ c.in_ok-behind-3.ensures.found
    (eqb-true _ _ (sym c.is_empty.ensures ∙ c.if-is_empty.true))

pub returns-clause-stuck : goal.returns-clause-stuck
returns-clause-stuck c =
    more_behind c.args.gates _ _ _ c.in_ok-behind.ensures.found _ _ c.in_ok-conflict.ensures.found _
    c.in_ok-behind-2.ensures.found _ _ c.in_ok-top.ensures.found _ c.in_ok-behind-3.ensures.found
    (let e = c.is_empty.ensures in let f = c.if-is_empty.false in grind (arith, e, f))
