-- Where a run stands, and where it stood before a step.
use Rattle.std.specs.Prelude.{◌≡◌, length, List, [], ◌∷◌, Option, Some, None, Bool, ⊤}
use Rattle.ar_base.specs.Numbers.{VarId}
use Rattle.domains.specs.declared.Value.{Value}
use Rattle.flow_propagate.specs.Determined.{IsDetermined}
use Rattle.flow_changes.specs.declared.present.Present.{Present}
use Rattle.gts_core.specs.declared.system.GtsParts.{GtsParts}
use Rattle.flow_changes.specs.Changes.{AreChanges}
use Rattle.flow_changes.specs.Restoring.{restored}
use Rattle.flow_changes.specs.Restoring as marks
use Rattle.way_flags.specs.Ways.{AreFlags}
use Rattle.way_flags.specs.Turning.{flags_turned}
use Rattle.stepper.specs.declared.changes.StepChanges.{StepChanges}

-- the values, which of them are facts, and which ways can fire
pub record Point : Type 0 where
  pub values : List Value
  pub known : List Bool
  pub can : List Bool

-- where a run stands by what it keeps
abbrev pub point_at : Present → List Bool → Point
point_at present can = record {
  values = present.determined.values.values.items;
  known = present.determined.known.items;
  can = can;
}

-- the values are determined by their own state, and the flags are those of the values
pub record IsPoint (p : GtsParts) (s : Point) : Type 0 where
  pub determined : IsDetermined p s.values s.known
  pub flags : AreFlags p s.values s.can

-- where the run stood before the step, by what the step changed
abbrev pub before : GtsParts → Point → StepChanges → Point
before p s step = record {
  values = restored p s.values step.flows.variables.items step.flows.old.items;
  known = marks.marks_turned s.known step.flows.turned.items;
  can = flags_turned s.can step.ways.items;
}

-- the step led here from a point that it gives back, and says which variables it changed
pub record TellsStepChanges (p : GtsParts) (s : Point) (step : StepChanges) : Type 0 where
  pub point : IsPoint p (before p s step)
  pub long : length step.flows.variables.items ≡ length step.flows.old.items
  pub changes : AreChanges (before p s step).values s.values step.flows.variables.items

-- the valuations below this one, the nearest first, by what each step changed, the last step first
abbrev pub below_by : GtsParts → Point → List StepChanges → List (List Value)
below_by p s [] = []
below_by p s (c ∷ cs) = (before p s c).values ∷ below_by p (before p s c) cs

-- each of these steps, the last one first, says what it changed
abbrev pub AreToldSteps : GtsParts → Point → List StepChanges → Type 0
AreToldSteps p s [] = ⊤
AreToldSteps p s (c ∷ cs) = TellsStepChanges p s c × AreToldSteps p (before p s c) cs

-- the variables that the last step changed, where it was not undone, or else the undone step
abbrev pub last_changed : Option StepChanges → List StepChanges → List VarId
last_changed (Some undone) cs = undone.flows.variables.items
last_changed None [] = []
last_changed None (c ∷ cs) = c.flows.variables.items
