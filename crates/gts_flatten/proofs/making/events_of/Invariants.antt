use Rattle.std.proofs.Common.{◌≡◌, ◌≤◌, ℕ, List, map, length}
use Rattle.ar_base.specs.Lists.{Stands}
use Rattle.gts_core.specs.Bound.{declared_from}
use Rattle.gts_core.specs.declared.bound.DeclaredEvent.{DeclaredEvent}
use Rattle.gts_core.specs.declared.system.Event.{Event}
use Rattle.sync_expand.specs.Counts.{AreCounts}
use Rattle.sync_expand.specs.Plans.{planned_ways, first_of}
use Rattle.sync_expand.specs.Planned.{planned_of}
use Rattle.gts_flatten.specs.Making.{IsMadeEvent}
use Rattle.gts_flatten.proofs.making.events_of.Given as goal

abbrev pub invariant-loop-number : goal.invariant-loop-number
invariant-loop-number l = (length l.events.items ≡ l.number) × (l.first ≤ length l.plan)
    × ((counts : List ℕ) → AreCounts (declared_from 0 l.declared) counts
    → map planned_of l.plan ≡ planned_ways counts (declared_from 0 l.declared)
    → (l.first ≡ first_of counts l.number)
    × ((n : ℕ) (d : DeclaredEvent) (e : Event) → Stands l.declared n d → Stands l.events.items n e
    → IsMadeEvent counts n d e))
