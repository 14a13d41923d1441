use Rattle.std.proofs.Common.{◌≡◌, length}
use Rattle.flow_propagate.proofs.Worklists.{ArePlaced}
use Rattle.flow_propagate.proofs.schedule.places_in.Given as goal

abbrev pub invariant-loop-place : goal.invariant-loop-place
invariant-loop-place l = (length l.places.items ≡ l.count) × ArePlaced l.order l.place l.places.items
