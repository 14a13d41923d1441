use Rattle.std.proofs.Common.{◌≡◌, ◌≤◌, ◌+◌, min, map, drop}
use Rattle.gts_core.specs.Bound.{member_of}
use Rattle.sync_expand.specs.Counts.{parts_given, way_count}
use Rattle.sync_expand.proofs.counting.part_count.Given as goal

abbrev pub invariant-loop-way : goal.invariant-loop-way
invariant-loop-way l = (l.total ≤ 1000001)
    × (way_count l.counts (map member_of l.ways) ≤ 256
    → min 1000001 (l.total + parts_given l.counts (map member_of (drop l.way-index l.ways)))
    ≡ min 1000001 (parts_given l.counts (map member_of l.ways)))
