use Rattle.std.proofs.Common.{◌≡◌, ◌≤◌, ◌+◌, min, map, drop}
use Rattle.gts_core.specs.Bound.{member_of}
use Rattle.sync_expand.specs.Counts.{way_count}
use Rattle.sync_expand.proofs.counting.way_count.Given as goal

abbrev pub invariant-loop-way : goal.invariant-loop-way
invariant-loop-way l = (l.total ≤ 257)
    × (min 257 (l.total + way_count l.counts (map member_of (drop l.way-index l.ways)))
    ≡ min 257 (way_count l.counts (map member_of l.ways)))
