use Rattle.flow_propagate.specs.Dependence.{AreUsesSoFar}
use Rattle.flow_propagate.proofs.dependence.dependences.Given as goal

abbrev pub invariant-loop-variable : goal.invariant-loop-variable
invariant-loop-variable l = AreUsesSoFar l.parts l.readers l.variable-index l.uses.items
