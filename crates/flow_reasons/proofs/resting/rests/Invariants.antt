use Rattle.std.proofs.Common.{take}
use Rattle.flow_reasons.specs.Resting.{AreRests}
use Rattle.flow_reasons.proofs.resting.rests.Given as goal

abbrev pub invariant-loop-variable : goal.invariant-loop-variable
invariant-loop-variable l = AreRests l.parts l.marks (take l.variable-index l.pairs) l.rests.items
