use Rattle.std.proofs.Common.{take}
use Rattle.flow_changes.specs.Gathering.{ArePlacesTo}
use Rattle.flow_changes.proofs.gathering.places_to.Given as goal

abbrev pub invariant-loop-n : goal.invariant-loop-n
invariant-loop-n l = ArePlacesTo l.givers.pairs.items l.places (take l.n-index l.members) l.list.items
