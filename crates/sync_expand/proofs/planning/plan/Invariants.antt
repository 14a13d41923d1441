use Rattle.std.proofs.Common.{◌≡◌, map, take}
use Rattle.gts_core.specs.Bound.{declared_from}
use Rattle.sync_expand.specs.Plans.{planned_ways}
use Rattle.sync_expand.specs.Planned.{planned_of}
use Rattle.sync_expand.proofs.planning.plan.Given as goal

abbrev pub invariant-loop-place : goal.invariant-loop-place
invariant-loop-place l = map planned_of l.plan.items
    ≡ planned_ways l.numbering.counts.items (take l.place (declared_from 0 l.events))
