use Rattle.std.proofs.Common.{take}
use Rattle.reason_text.proofs.Marks.{AreSoFar}
use Rattle.reason_text.proofs.telling.marks_of.Given as goal

abbrev pub invariant-loop-variable : goal.invariant-loop-variable
invariant-loop-variable l = AreSoFar l.count (take l.variable-index l.variables) l.marks.items
