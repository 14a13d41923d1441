use Rattle.std.proofs.Common.{refl, map, List, Bool}
use Rattle.std.specs.List.{concat}
use Rattle.typed_expr.specs.declared.expr.Expr.{Expr}
use Rattle.ar_io.proofs.Writing.{writes_on, writes_front, writes_exit, writes_as, leaves_all, leaves_on, leaves_front, leaves_none, next_item, no_item}
use Rattle.ar_base.specs.Numbers.{VarId}
use Rattle.gts_core.specs.Printed.{condition_text}
use Rattle.gts_core.proofs.print.conditions.Goals as goal

pub loop-condition-init : goal.loop-condition-init
loop-condition-init g c = leaves_all _ _

pub returns-in_err-write_text : goal.returns-in_err-write_text
returns-in_err-write_text g c =
    writes_exit _ _ c.from_residual.ensures.1
    (leaves_front _ _ c.loop-condition.invariant (writes_as _ (condition_text c.args.parts.now c.condition-item.result) refl
    (writes_front _ _ (writes_as _ _ c.either.ensures c.in_err-write_text.ensures)))
    (next_item (λ (xs : List (Expr VarId × Bool)). concat (map (condition_text c.args.parts.now) xs)) c.args.all.now
    c.loop-condition.condition-index c.condition-item.result c.loop-condition-test.true c.condition-item.is))

pub returns-in_err-expression : goal.returns-in_err-expression
returns-in_err-expression g c =
    writes_exit _ _ c.from_residual-in_err-expression.ensures.1
    (leaves_front _ _ c.loop-condition.invariant (writes_as _ (condition_text c.args.parts.now c.condition-item.result) refl
    (writes_on (writes_as _ _ c.either.ensures c.in_ok-write_text.ensures) c.in_err-expression.ensures))
    (next_item (λ (xs : List (Expr VarId × Bool)). concat (map (condition_text c.args.parts.now) xs)) c.args.all.now
    c.loop-condition.condition-index c.condition-item.result c.loop-condition-test.true c.condition-item.is))

pub loop-condition-preserved : goal.loop-condition-preserved
loop-condition-preserved g c =
    leaves_on _ _ c.loop-condition.invariant (writes_as _ (condition_text c.args.parts.now c.condition-item.result) refl
    (writes_on (writes_as _ _ c.either.ensures c.in_ok-write_text.ensures) c.in_ok-expression.ensures))
    (next_item (λ (xs : List (Expr VarId × Bool)). concat (map (condition_text c.args.parts.now) xs)) c.args.all.now
    c.loop-condition.condition-index c.condition-item.result c.loop-condition-test.true c.condition-item.is)

pub returns : goal.returns
returns g c =
    leaves_none _ c.loop-condition.invariant
    (no_item (λ (xs : List (Expr VarId × Bool)). concat (map (condition_text c.args.parts.now) xs)) c.args.all.now
    c.loop-condition.condition-index c.loop-condition-test.false)
