use Rattle.std.proofs.Common.{take}
use Rattle.tree_equations.specs.Blocks.{StandAtPlaces}
use Rattle.tree_equations.proofs.index.numbers_at.Given as goal

abbrev pub invariant-loop-place : goal.invariant-loop-place
invariant-loop-place l = StandAtPlaces l.flows (take l.place-index l.places) l.numbers.items
