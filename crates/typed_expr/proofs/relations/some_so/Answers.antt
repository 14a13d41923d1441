use Rattle.std.proofs.Common.{◌↔◌, IsTrue, true, sym, subst}
use Rattle.typed_expr.specs.Evaluating.{SomeRelated}
use Rattle.typed_expr.specs.declared.expr.Relation.{Relation}
use Rattle.typed_expr.proofs.Ends.{some-differ}
use Rattle.typed_expr.proofs.relations.some_so.Goals as goal

pub returns-in-Differs : goal.returns-in-Differs
returns-in-Differs c =
    subst (λ (r : Relation). IsTrue c.either.result ↔ SomeRelated r c.args.left.now c.args.right.now true)
    (sym c.in-Differs.is)
    (some-differ c.args.left.now c.args.right.now c.either.result c.some_before.result c.some_before-in-Differs.result
    c.either.ensures c.some_before.ensures c.some_before-in-Differs.ensures)
