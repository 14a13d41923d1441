use Rattle.std.proofs.Common.{◌≡◌, length}
use Rattle.way_flags.specs.Index.{ArePlacedUpTo}
use Rattle.way_flags.proofs.index.places_in.Given as goal

abbrev pub invariant-loop-place : goal.invariant-loop-place
invariant-loop-place l = (length l.places.items ≡ l.count) × ArePlacedUpTo l.order l.place l.places.items
