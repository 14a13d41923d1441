-- What a stepper keeps.
use Rattle.std.specs.Prelude.{List, reverse}
use Rattle.domains.specs.declared.Value.{Value}
use Rattle.flow_propagate.specs.Plan.{IsPlan}
use Rattle.flow_changes.specs.Present.{IsPresent}
use Rattle.way_flags.specs.Ways.{AreFlags}
use Rattle.way_flags.specs.Index.{IsWayIndex}
use Rattle.stepper.specs.Changes.{Point, point_at, below_by, last_changed, AreToldSteps}
use Rattle.stepper.specs.Steps.{Standing}
use Rattle.stepper.specs.declared.stepper.Stepper.TheInside.{Inside}

-- where the run stands
abbrev pub point_of : Inside → Point
point_of s = point_at s.present s.can.items

-- the standing valuations below the present one
abbrev pub below_of : Inside → List (List Value)
below_of s = below_by s.gts.now (point_of s) (reverse s.steps.items)

abbrev pub standing_of : Inside → Standing
standing_of s = record {
  system = s.gts.now;
  values = s.present.determined.values.values.items;
  below = below_of s;
  changed = last_changed s.undone (reverse s.steps.items);
}

-- each standing valuation is determined by its own state with right marks and flags, each step says what it changed,
-- and the plan and the index are the system's
pub record IsSoundStepper (s : Inside) : Type 0 where
  pub present : IsPresent s.gts.now s.present
  pub flags : AreFlags s.gts.now s.present.determined.values.values.items s.can.items
  pub told : AreToldSteps s.gts.now (point_of s) (reverse s.steps.items)
  pub plan : IsPlan s.gts.now s.plan
  pub index : IsWayIndex s.gts.now s.index
