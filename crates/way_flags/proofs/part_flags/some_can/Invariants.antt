use Rattle.std.proofs.Common.{◌≡◌, false, take}
use Rattle.way_flags.specs.Parts.{some_by}
use Rattle.way_flags.proofs.part_flags.some_can.Given as goal

abbrev pub invariant-loop-way : goal.invariant-loop-way
invariant-loop-way l = some_by l.flags (take l.way-index l.parts) ≡ false
