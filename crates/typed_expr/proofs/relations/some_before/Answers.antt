use Rattle.std.proofs.Common.{◌↔◌, Bool, IsTrue, true, sym, subst}
use Rattle.typed_expr.specs.Evaluating.{SomeRelated}
use Rattle.typed_expr.specs.declared.expr.Relation.TheVariants.{Less}
use Rattle.typed_expr.proofs.Ends.{some-before}
use Rattle.typed_expr.proofs.relations.some_before.Goals as goal

pub returns : goal.returns
returns c =
    subst (λ (b : Bool). IsTrue b ↔ SomeRelated Less c.args.first.now c.args.second.now true) (sym c.before-2.ensures)
    (some-before c.args.first.now c.args.second.now c.in-Some.least.now c.in-Some-last.greatest.now c.requires.first
    c.requires.second (sym c.in-Some.ensures.value) (sym c.in-Some-last.ensures.value))
