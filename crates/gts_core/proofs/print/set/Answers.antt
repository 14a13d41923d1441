use Rattle.std.proofs.Common.{ap, map, List, Bool}
use Rattle.std.specs.List.{concat}
use Rattle.typed_expr.specs.declared.expr.Expr.{Expr}
use Rattle.ar_io.proofs.Writing.{writes_on, writes_front, writes_exit, writes_as}
use Rattle.ar_base.specs.Numbers.{VarId}
use Rattle.gts_core.specs.Printed.{condition_text}
use Rattle.gts_core.proofs.print.set.Goals as goal

pub returns-in_err-write_text : goal.returns-in_err-write_text
returns-in_err-write_text g c =
    writes_exit _ _ c.from_residual.ensures.1
    (writes_front _ _ (writes_front _ _ (writes_front _ _ (writes_as _ _ c.variable_path.ensures c.in_err-write_text.ensures))))

pub returns-in_err-write_text-2 : goal.returns-in_err-write_text-2
returns-in_err-write_text-2 g c =
    writes_exit _ _ c.from_residual-in_err-write_text-2.ensures.1
    (writes_front _ _ (writes_front _ _ (writes_on (writes_as _ _ c.variable_path.ensures c.in_ok-write_text.ensures)
    c.in_err-write_text-2.ensures)))

pub returns-in_err-expression : goal.returns-in_err-expression
returns-in_err-expression g c =
    writes_exit _ _ c.from_residual-in_err-expression.ensures.1
    (writes_front _ _ (writes_on (writes_on (writes_as _ _ c.variable_path.ensures c.in_ok-write_text.ensures) c.in_ok-write_text-2.ensures)
    c.in_err-expression.ensures))

pub returns : goal.returns
returns g c =
    writes_on (writes_on (writes_on (writes_as _ _ c.variable_path.ensures c.in_ok-write_text.ensures) c.in_ok-write_text-2.ensures)
    c.in_ok-expression.ensures) (writes_as _ _
    (ap (λ (cs : List (Expr VarId × Bool)). concat (map (condition_text c.args.parts.now) cs))
    c.deref.ensures.value) c.conditions.ensures)
