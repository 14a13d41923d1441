use Rattle.std.proofs.Common.{◌≡◌, take}
use Rattle.flow_propagate.specs.Dependence.{flows_in, ArePlaces}
use Rattle.flow_propagate.proofs.dependence.flow_places.Given as goal

abbrev pub invariant-loop-variable : goal.invariant-loop-variable
invariant-loop-variable l = ArePlaces l.variables l.variable-index l.before.items
    × (l.count ≡ flows_in (take l.variable-index l.variables))
