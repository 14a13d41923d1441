use Rattle.coherent_cuts.specs.Places.{ArePlaced}
use Rattle.coherent_cuts.proofs.paths.places.Given as goal

-- the trees so far have their places
abbrev pub invariant-loop-place : goal.invariant-loop-place
invariant-loop-place l = ArePlaced l.fn.trees l.place l.places
