use Rattle.std.proofs.Common.{take}
use Rattle.flow_reasons.specs.FactMarks.{MarksAll}
use Rattle.flow_reasons.proofs.fact_marks.mark_all.Given as goal

abbrev pub invariant-loop-n : goal.invariant-loop-n
invariant-loop-n l = MarksAll l.parts (take l.n-index l.bringing) l.round l.initial.marks l.marks l.fresh.items
