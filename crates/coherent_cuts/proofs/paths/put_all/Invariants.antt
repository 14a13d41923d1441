use Rattle.std.proofs.Common.{take}
use Rattle.coherent_cuts.specs.Places.{Puts}
use Rattle.coherent_cuts.proofs.paths.put_all.Given as goal

-- the places are put for the events of the edges so far
abbrev pub invariant-loop-place : goal.invariant-loop-place
invariant-loop-place l = Puts (take l.place l.fn.edges) l.fn.tree l.fn.places l.places
