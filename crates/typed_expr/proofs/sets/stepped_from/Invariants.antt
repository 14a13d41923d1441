use Rattle.typed_expr.proofs.Gathering.{SoFar, SteppedTo}
use Rattle.typed_expr.proofs.sets.stepped_from.Given as goal

abbrev pub invariant-loop-v : goal.invariant-loop-v
invariant-loop-v l = SoFar l.most l.set (SteppedTo l.step l.first l.n l.fn.set l.values l.v-index)
