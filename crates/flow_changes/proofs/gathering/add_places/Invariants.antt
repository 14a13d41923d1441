use Rattle.std.proofs.Common.{take}
use Rattle.flow_changes.specs.Gathering.{GathersPlaces}
use Rattle.flow_changes.proofs.gathering.add_places.Given as goal

abbrev pub invariant-loop-assign : goal.invariant-loop-assign
invariant-loop-assign l = GathersPlaces l.places (take l.assign-index l.pairs) l.initial.list.items l.list.items
