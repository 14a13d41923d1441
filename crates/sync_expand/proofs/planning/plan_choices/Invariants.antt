use Rattle.std.proofs.Common.{map, take}
use Rattle.ar_meaning.specs.Numbered.{Joins}
use Rattle.gts_core.specs.Bound.{event_part_of}
use Rattle.sync_expand.specs.Plans.{choices_by}
use Rattle.sync_expand.specs.Planning.{AddsPlannedWays}
use Rattle.sync_expand.proofs.planning.plan_choices.Given as goal

abbrev pub invariant-loop-place : goal.invariant-loop-place
invariant-loop-place l = AddsPlannedWays l.event.n l.first
    (map Joins (take l.place (choices_by l.numbering.counts.items (map event_part_of l.parts))))
    l.initial.plan.items l.plan.items
