use Rattle.std.proofs.Common.{true, take}
use Rattle.typed_expr.specs.Evaluating.{SomeRelated}
use Rattle.typed_expr.specs.declared.expr.Relation.TheVariants.{Equal}
use Rattle.typed_expr.proofs.relations.some_shared.Given as goal

-- none so far
abbrev pub invariant-loop-v : goal.invariant-loop-v
invariant-loop-v l = SomeRelated Equal (take l.v-index l.left) l.right true → ⊥
