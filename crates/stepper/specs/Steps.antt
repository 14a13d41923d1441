-- What callers see of a stepper, and what its calls answer.
use Rattle.std.specs.Prelude.{ℕ, List, ⊤}
use Rattle.domains.specs.declared.Value.{Value}
use Rattle.ar_meaning.specs.Systems as s
use Rattle.ar_meaning.specs.Runs.{StartFails}
use Rattle.ar_meaning.specs.Steps as steps
use Rattle.ar_base.specs.Numbers.{VarId}
use Rattle.gts_core.specs.declared.system.GtsParts.{GtsParts}
use Rattle.flow_propagate.specs.Answers.{fault_of}
use Rattle.flow_propagate.specs.declared.propagation.PropagateFault.{PropagateFault}
use Rattle.flow_propagate.specs.declared.propagation.PropagateFault.TheVariants as propagates
use Rattle.stepper.specs.declared.faults.StepFault.{StepFault}
use Rattle.stepper.specs.declared.faults.StepFault.TheVariants as fault

-- the system, the present valuation, the standing valuations below it, the nearest first, and the variables that the
-- last step or the last way back changed
pub record Standing : Type 0 where
  pub system : GtsParts
  pub values : List Value
  pub below : List (List Value)
  pub changed : List VarId

-- the fault is the one of the start; want of memory says nothing
abbrev pub IsStartFault : s.Net ℕ → PropagateFault → Type 0
IsStartFault net (propagates.Flow f) = StartFails net (fault_of f)
IsStartFault net propagates.Memory = ⊤

-- the fault is the one that firing the way from t gives; want of memory says nothing
abbrev pub IsStepFault : s.Net ℕ → List Value → s.Way ℕ → StepFault → Type 0
IsStepFault net t w fault.NotEnabled = steps.Step net t w (steps.Refused steps.NotEnabled)
IsStepFault net t w (fault.Clash x) = steps.Step net t w (steps.Refused (steps.Clash x.n))
IsStepFault net t w (fault.Range x) = steps.Step net t w (steps.Refused (steps.Range x.n))
IsStepFault net t w (fault.Flow f) = steps.Step net t w (steps.Refused (steps.Flow (fault_of f)))
IsStepFault net t w fault.Memory = ⊤
