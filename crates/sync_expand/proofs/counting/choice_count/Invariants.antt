use Rattle.std.proofs.Common.{◌≡◌, ◌≤◌, ◌*◌, min, map, drop}
use Rattle.gts_core.specs.Bound.{event_part_of}
use Rattle.sync_expand.specs.Counts.{choice_count}
use Rattle.sync_expand.proofs.counting.choice_count.Given as goal

abbrev pub invariant-loop-event : goal.invariant-loop-event
invariant-loop-event l = (l.product ≤ 257)
    × (min 257 (l.product * choice_count l.counts (map event_part_of (drop l.event-index l.parts)))
    ≡ min 257 (choice_count l.counts (map event_part_of l.parts)))
