use Rattle.std.proofs.Common.{◌≡◌, take}
use Rattle.way_flags.specs.Turning.{flags_turned}
use Rattle.way_flags.proofs.turning.turn.Given as goal

abbrev pub invariant-loop-way : goal.invariant-loop-way
invariant-loop-way l = l.flags.items ≡ flags_turned l.initial.flags.items (take l.way-index l.ways)
