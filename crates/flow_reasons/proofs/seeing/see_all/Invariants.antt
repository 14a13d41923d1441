use Rattle.std.proofs.Common.{take}
use Rattle.flow_reasons.specs.Answers.{numbers_of}
use Rattle.flow_reasons.specs.Cones.{SeesAll}
use Rattle.flow_reasons.proofs.seeing.see_all.Given as goal

abbrev pub invariant-loop-variable : goal.invariant-loop-variable
invariant-loop-variable l = SeesAll (numbers_of (take l.variable-index l.variables)) l.initial.seen l.seen
    l.initial.found.items l.found.items
