use Rattle.std.proofs.Common.{◌≡◌, take}
use Rattle.aralia_text.proofs.reading.names_of.Given as goal

abbrev pub invariant-loop-text : goal.invariant-loop-text
invariant-loop-text l = l.names ≡ take l.text-index l.events
