use Rattle.std.proofs.Common.{map, drop, Bool, true}
use Rattle.std.specs.List.{concat}
use Rattle.ar_base.specs.Texts.{separated}
use Rattle.typed_expr.specs.declared.expr.Expr.{Expr}
use Rattle.ar_io.specs.WritingInside.{Leaves}
use Rattle.ar_base.specs.Numbers.{VarId}
use Rattle.gts_core.specs.Printed.{expr_text, summed, case_form}
use Rattle.gts_core.proofs.expressions.+expression.Given as goal

abbrev pub invariant-cases-loop-test : goal.invariant-cases-loop-test
invariant-cases-loop-test g l =
    Leaves (g.K.Sink.state l.initial.out) (g.K.Sink.state l.out)
    (concat (map (case_form l.one) (map
    (λ (d : Expr VarId × Expr VarId). (expr_text l.parts d.0, expr_text l.parts d.1))
    (drop l.test-index l.choices))))
    (concat (map (case_form l.one) (map
    (λ (d : Expr VarId × Expr VarId). (expr_text l.parts d.0, expr_text l.parts d.1)) l.choices)))

abbrev pub invariant-operands-loop-e : goal.invariant-operands-loop-e
invariant-operands-loop-e g l =
    Leaves (g.K.Sink.state l.initial.out) (g.K.Sink.state l.out)
    (separated l.first l.separator (map (expr_text l.parts) (drop l.e-index l.es)))
    (separated true l.separator (map (expr_text l.parts) l.es))

abbrev pub invariant-terms-loop-plus : goal.invariant-terms-loop-plus
invariant-terms-loop-plus g l =
    Leaves (g.K.Sink.state l.initial.out) (g.K.Sink.state l.out)
    (summed l.first (map (λ (q : Bool × Expr VarId). (q.0, expr_text l.parts q.1)) (drop l.plus-index l.all)))
    (summed true (map (λ (q : Bool × Expr VarId). (q.0, expr_text l.parts q.1)) l.all))
