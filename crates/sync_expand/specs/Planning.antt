-- Ways that are added to a plan.
use Rattle.std.specs.Prelude.{◌≡◌, ℕ, ◌+◌, ◌-◌, ◌<◌, ◌≤◌, ◌^◌, List, ◌++◌, map, length, sum}
use Rattle.ar_meaning.specs.Numbered.{Body}
use Rattle.sync_expand.specs.Counts.{AreFirsts}
use Rattle.sync_expand.specs.Plans.{numbered_from}
use Rattle.sync_expand.specs.Planned.{planned_of}
use Rattle.sync_expand.specs.declared.planning.Numbering.{Numbering}
use Rattle.sync_expand.specs.declared.plans.WayPlan.{WayPlan}

-- the new plan has ways of the event with these bodies behind those of the old one; the event's
-- first way has the place `first`
pub record AddsPlannedWays (event first : ℕ) (bodies : List (Body ℕ)) (old new : List WayPlan) : Type 0 where
  pub is : map planned_of new ≡ map planned_of old
      ++ numbered_from event (length old - first + 1) bodies

-- the numbers of the first ways are right where the events have so many ways, which all have numbers
pub record IsNumbering (counts firsts : List ℕ) : Type 0 where
  pub are_firsts : AreFirsts counts firsts
  pub small : sum counts < 2 ^ 32

-- the same of what the code keeps
abbrev pub IsNumberingKept : Numbering → Type 0
IsNumberingKept numbering = IsNumbering numbering.counts.items numbering.firsts.items

-- the plan has so few ways of the event whose first way has the place `first` that with so many more it is within the
-- limit
pub record HasRoomForWays (first more : ℕ) (plan : List WayPlan) : Type 0 where
  pub low : first ≤ length plan
  pub room : length plan - first + more ≤ 256
