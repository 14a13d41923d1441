use Rattle.std.proofs.Common.{◌-◌, length}
use Rattle.aralia_text.proofs.Numbers.{SoFar}
use Rattle.aralia_text.proofs.fronts.digits.Given as goal

abbrev pub invariant-loop-n : goal.invariant-loop-n
invariant-loop-n l = SoFar l.gates l.rest l.value l.n

abbrev pub decreases-loop-n : goal.decreases-loop-n
decreases-loop-n l = length l.rest - l.n
