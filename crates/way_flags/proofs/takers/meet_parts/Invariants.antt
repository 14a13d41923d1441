use Rattle.std.proofs.Common.{take}
use Rattle.way_flags.specs.Meeting.{MeetsWays, HasTakenPart}
use Rattle.way_flags.proofs.takers.meet_parts.Given as goal

abbrev pub invariant-loop-must : goal.invariant-loop-must
invariant-loop-must l = MeetsWays (HasTakenPart (take l.must-index l.must-items) l.flags) l.initial.met l.met
