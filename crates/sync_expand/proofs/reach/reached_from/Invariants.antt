use Rattle.std.proofs.Common.{◌+◌, ◌-◌, length}
use Rattle.sync_expand.specs.Reached.{marked}
use Rattle.sync_expand.proofs.Walking.{IsWalk}
use Rattle.sync_expand.proofs.reach.reached_from.Given as goal

abbrev pub invariant-loop-event : goal.invariant-loop-event
invariant-loop-event l = IsWalk l.events l.fn.from.n l.walk

abbrev pub decreases-loop-event : goal.decreases-loop-event
decreases-loop-event l = length l.walk.marks.items - marked l.walk.marks.items + length l.walk.ahead.items
