use Rattle.min_cuts.specs.Kept.{numbers_of_set}
use Rattle.min_cuts.proofs.Placing.{ArePlaced}
use Rattle.min_cuts.proofs.orders.places_of.Given as goal

abbrev pub invariant-loop-place : goal.invariant-loop-place
invariant-loop-place l = ArePlaced (numbers_of_set l.order) l.place l.places.items
