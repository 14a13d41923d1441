use Rattle.typed_expr.proofs.Gathering.{SoFar, JoinedTo}
use Rattle.typed_expr.proofs.sets.joined.Given as goal

abbrev pub invariant-loop-v : goal.invariant-loop-v
invariant-loop-v l = SoFar l.most l.set (JoinedTo l.fn.set l.values l.v-index)
