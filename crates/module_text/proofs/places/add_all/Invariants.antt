use Rattle.std.proofs.Common.{◌≡◌, ◌++◌, take}
use Rattle.module_text.proofs.places.add_all.Given as goal

abbrev pub invariant-loop-place : goal.invariant-loop-place
invariant-loop-place l = l.spots.items ≡ l.initial.spots.items ++ take l.place-index l.row
