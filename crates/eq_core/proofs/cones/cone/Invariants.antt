use Rattle.std.proofs.Common.{map}
use Rattle.eq_core.specs.Views.{gate_of, operand_of}
use Rattle.eq_core.proofs.Marking.{IsMarking}
use Rattle.eq_core.proofs.cones.cone.Given as goal

abbrev pub invariant-loop-left : goal.invariant-loop-left
invariant-loop-left l = IsMarking (map gate_of l.gates) (operand_of l.fn.root) l.left l.marks.items

abbrev pub decreases-loop-left : goal.decreases-loop-left
decreases-loop-left l = l.left
