use Rattle.written_forms.specs.WrongInside.{NamesKind}
use Rattle.written_forms.proofs.KindsFound.{one_form, one_named}
use Rattle.std.proofs.Common.{subst}
use Rattle.ar_base.specs.Numbers.{VarId}
use Rattle.typed_expr.specs.Kinds.{HasKind}
use Rattle.typed_expr.specs.declared.expr.Expr.{out-Expr}
use Rattle.written_forms.specs.Translating.{StandsFor}
use Rattle.written_forms.proofs.RightForms.{typed_whole}
use Rattle.written_forms.proofs.laws.form_laws.Goals as goal

pub returns-clause-one_kind : goal.returns-clause-one_kind
returns-clause-one_kind c = λ kinds e j k h g. one_form (NamesKind kinds) (one_named kinds) h g

pub returns-clause-right_expressions : goal.returns-clause-right_expressions
returns-clause-right_expressions c = λ kinds leaves sorts compatible e f k named right becomes.
    typed_whole (StandsFor leaves) kinds sorts (λ p l j s h. subst (λ z. HasKind sorts z j) s (compatible p j h)) e
    (out-Expr VarId f) k named right becomes
