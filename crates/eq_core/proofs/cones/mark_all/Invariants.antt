use Rattle.std.proofs.Common.{map, take}
use Rattle.eq_core.specs.Views.{operand_of}
use Rattle.eq_core.specs.Marks.{MarksOperands}
use Rattle.eq_core.proofs.cones.mark_all.Given as goal

abbrev pub invariant-loop-operand : goal.invariant-loop-operand
invariant-loop-operand l = MarksOperands (map operand_of (take l.operand-index l.operands)) l.fn.marks l.marks
