use Rattle.std.proofs.Common.{◌-◌, length}
use Rattle.way_flags.proofs.Meeting.{IsTaking}
use Rattle.way_flags.proofs.takers.takers.Given as goal

abbrev pub invariant-loop-done : goal.invariant-loop-done
invariant-loop-done l = IsTaking l.parts l.flags l.fn.way.n l.done l.met

abbrev pub decreases-loop-done : goal.decreases-loop-done
decreases-loop-done l = length l.parts.ways.items - l.done
