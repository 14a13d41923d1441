use Rattle.written_forms.specs.WrongInside.{demanding}
use Rattle.written_forms.proofs.MistypedForms.{wrong_real, wrong_empty, wrong_kind, right_kind}
use Rattle.written_forms.proofs.mistyping.wrong_itself.Goals as goal

pub returns-then-is_real : goal.returns-then-is_real
returns-then-is_real g c = wrong_real (g.N.Naming.kind_at c.args.naming.now) (demanding c.args.want) c.args.expr.now
    (c.is_real.ensures.0 c.if-is_real.true)

pub returns-then-not-has_operands : goal.returns-then-not-has_operands
returns-then-not-has_operands g c =
    wrong_empty (g.N.Naming.kind_at c.args.naming.now) (demanding c.args.want) c.args.expr.now (λ h. let t = c.has_operands.ensures.1 h in let f = c.if-not-has_operands.true in cc)

pub returns-then-differ : goal.returns-then-differ
returns-then-differ g c =
    wrong_kind (g.N.Naming.kind_at c.args.naming.now) c.args.expr.now c.form_kind.result c.args.want c.form_kind.ensures
    (c.differ.ensures.0 c.if-differ.true)

pub returns-else-differ : goal.returns-else-differ
returns-else-differ g c =
    right_kind (g.N.Naming.kind_at c.args.naming.now) c.args.expr.now c.form_kind.result c.args.want (λ i. let t = c.is_real.ensures.1 i in let f = c.if-is_real.false in cc)
    (c.has_operands.ensures.0 c.if-not-has_operands.false)
    c.form_kind.ensures (λ h. let t = c.differ.ensures.1 h in let f = c.if-differ.false in cc)
