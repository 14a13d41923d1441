use Rattle.std.proofs.Common.{◌≡◌, List, ℕ, length}
use Rattle.gts_core.specs.Bound.{declared_from}
use Rattle.sync_expand.specs.Counts.{AreCounts}
use Rattle.sync_expand.specs.Tallies.{AreFirstCounted}
use Rattle.sync_expand.proofs.counting.count_ways.Given as goal

abbrev pub invariant-loop-event : goal.invariant-loop-event
invariant-loop-event l = (length l.counts.items ≡ length l.events)
    × ((counts : List ℕ) → AreCounts (declared_from 0 l.events) counts
    → AreFirstCounted counts l.event-items l.event-index l.counts.items)
