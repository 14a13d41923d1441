use Rattle.std.proofs.Common.{◌≡◌, false, take}
use Rattle.way_flags.specs.Parts.{has_must_in}
use Rattle.way_flags.proofs.part_flags.has_must.Given as goal

abbrev pub invariant-loop-must : goal.invariant-loop-must
invariant-loop-must l = has_must_in (take l.must-index l.parts) ≡ false
