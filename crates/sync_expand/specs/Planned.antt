-- The plan of the code, in words of the ways.
use Rattle.std.specs.Prelude.{◌≡◌, ℕ, Bool, List, map, length}
use Rattle.std.specs.List.{flat_map}
use Rattle.ar_base.specs.Lists.{Stands}
use Rattle.ar_meaning.specs.Systems.{Way}
use Rattle.ar_meaning.specs.Expand.{EventDeclaration, One}
use Rattle.ar_meaning.specs.Numbered.{Body, Acts, Joins}
use Rattle.gts_core.specs.View.{part_of}
use Rattle.gts_core.specs.Bound.{declared_from}
use Rattle.gts_core.specs.declared.bound.DeclaredEvent.{DeclaredEvent}
use Rattle.sync_expand.specs.declared.plans.WayPlan.{WayPlan}
use Rattle.sync_expand.specs.declared.plans.PlanBody.{PlanBody}
use Rattle.sync_expand.specs.declared.plans.PlanBody.TheVariants.{Local, Sync}
use Rattle.sync_expand.specs.Plans.{PlannedWay, bodies_by, planned_ways}

-- the bodies of the ways of all events, event by event, with transitions in them
abbrev pub all_bodies : {L : Type 0} → List ℕ → List (EventDeclaration L ℕ) → List (Body L)
all_bodies counts events = flat_map (λ d. bodies_by (λ k l. l) counts 0 d.members) events

-- a way of the plan with its transition in it: the member at its place among the event's members
pub data IsResolved {L : Type 0} (events : List (EventDeclaration L ℕ)) (w : PlannedWay) : Body L
    → Type 0 where
  acts : {k : ℕ} {d : EventDeclaration L ℕ} {l : L} → w.body ≡ Acts k → Stands events w.event d
      → Stands d.members k (One l) → IsResolved events w (Acts l)
  joins : {parts : List (Bool × ℕ)} → w.body ≡ Joins parts → IsResolved events w (Joins parts)

-- what the code plans, in these words
abbrev pub planned_body : PlanBody → Body ℕ
planned_body (Local place) = Acts place
planned_body (Sync parts) = Joins (map part_of parts.items)

abbrev pub planned_of : WayPlan → PlannedWay
planned_of w = record { event = w.event.n; number = w.number; body = planned_body w.body }

-- the plan has the ways of the declared events, which have these ways: event by event, each event's
-- ways numbered from 1, and a way's number among all ways is its place in the plan
pub record IsWayPlan (events : List DeclaredEvent) (ways : List (List (Way ℕ)))
    (plan : List WayPlan) : Type 0 where
  pub is : map planned_of plan ≡ planned_ways (map length ways) (declared_from 0 events)
