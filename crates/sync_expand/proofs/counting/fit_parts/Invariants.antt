use Rattle.std.proofs.Common.{◌≡◌, ◌≤◌, ◌+◌, min, drop}
use Rattle.gts_core.specs.Bound.{declared_from}
use Rattle.sync_expand.specs.Counts.{AreFew, all_parts}
use Rattle.sync_expand.proofs.counting.fit_parts.Given as goal

abbrev pub invariant-loop-declared : goal.invariant-loop-declared
invariant-loop-declared l = (l.total ≤ 1000001)
    × (AreFew l.counts (declared_from 0 l.events)
    → min 1000001 (l.total + all_parts l.counts (drop l.declared-index (declared_from 0 l.events)))
    ≡ min 1000001 (all_parts l.counts (declared_from 0 l.events)))
