use Rattle.std.proofs.Common.{length, map}
use Rattle.eq_core.specs.Views.{all_needed, operand_of}
use Rattle.aralia_text.proofs.GateLines.{IsSoFar}
use Rattle.aralia_text.proofs.gates.operands.Given as goal

abbrev pub invariant-loop-left : goal.invariant-loop-left
invariant-loop-left l = IsSoFar l.gates l.names l.rest (all_needed l.joint) (map operand_of l.operands.items) l.left

abbrev pub decreases-loop-left : goal.decreases-loop-left
decreases-loop-left l = length l.left
