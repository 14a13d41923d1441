use Rattle.std.proofs.Common.{◌≡◌, true, take}
use Rattle.way_flags.specs.Parts.{musts_by}
use Rattle.way_flags.proofs.part_flags.musts_can.Given as goal

abbrev pub invariant-loop-must : goal.invariant-loop-must
invariant-loop-must l = musts_by l.flags (take l.must-index l.parts) ≡ true
