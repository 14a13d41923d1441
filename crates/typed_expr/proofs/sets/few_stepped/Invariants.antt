use Rattle.std.proofs.Common.{take}
use Rattle.typed_expr.specs.Evaluating.{IsNextOperand}
use Rattle.typed_expr.proofs.Gathering.{SoFar}
use Rattle.typed_expr.proofs.sets.few_stepped.Given as goal

abbrev pub invariant-loop-n : goal.invariant-loop-n
invariant-loop-n l = SoFar l.most l.set (IsNextOperand l.step l.first (take l.n-index l.numbers) l.values)
