use Rattle.std.proofs.Common.{◌≡◌, take}
use Rattle.flow_reasons.specs.Marks.{first_marks_of}
use Rattle.flow_reasons.proofs.rounds.first_marks.Given as goal

abbrev pub invariant-loop-variable : goal.invariant-loop-variable
invariant-loop-variable l = l.marks.items ≡ first_marks_of (take l.variable-index l.parts.variables.items)
