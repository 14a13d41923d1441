use Rattle.std.proofs.Common.{◌≡◌, ◌++◌, take}
use Rattle.module_text.specs.Places.{pieces_at}
use Rattle.module_text.proofs.arranging.add_ways.Given as goal

abbrev pub invariant-loop-spot : goal.invariant-loop-spot
invariant-loop-spot l = l.pieces.items ≡ l.initial.pieces.items ++ pieces_at l.ways (take l.spot-index l.spots)
