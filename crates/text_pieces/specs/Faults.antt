-- The texts of faults of the flows and of steps, and the numbers that they tell.
use Rattle.std.specs.Prelude.{◌<◌, ℕ, List, [], length}
use Rattle.ar_meaning.specs.Steps as steps
use Rattle.ar_meaning.specs.TraceText.{flow_fault_text, step_fault_text}
use Rattle.flow_propagate.specs.Answers.{fault_of}
use Rattle.flow_propagate.specs.declared.propagation.FlowFault.{FlowFault}
use Rattle.flow_propagate.specs.declared.propagation.FlowFault.TheVariants.{Two, Outside, Broken}
use Rattle.gts_core.specs.declared.system.GtsParts.{GtsParts}
use Rattle.gts_flatten.specs.Flat.{naming_of_parts}
use Rattle.stepper.specs.declared.faults.StepFault.{StepFault}
use Rattle.stepper.specs.declared.faults.StepFault.TheVariants as fault

-- the number of a fault is that of a variable, or of an assignment
abbrev pub IsInRange : GtsParts → FlowFault → Type 0
IsInRange p (Two x) = x.n < length p.variables.items
IsInRange p (Outside x) = x.n < length p.variables.items
IsInRange p (Broken a) = a.n < length p.assigns.items

-- a fault of a step by numbers; want of memory has no text
abbrev pub step_text : GtsParts → StepFault → List ℕ
step_text p fault.NotEnabled = step_fault_text (naming_of_parts p) steps.NotEnabled
step_text p (fault.Clash x) = step_fault_text (naming_of_parts p) (steps.Clash x.n)
step_text p (fault.Range x) = step_fault_text (naming_of_parts p) (steps.Range x.n)
step_text p (fault.Flow f) = flow_fault_text (naming_of_parts p) (fault_of f)
step_text p fault.Memory = []

-- the numbers of a fault of a step are in range
abbrev pub IsFaultInRange : GtsParts → StepFault → Type 0
IsFaultInRange p fault.NotEnabled = Unit {0}
IsFaultInRange p (fault.Clash x) = Unit {0}
IsFaultInRange p (fault.Range x) = Unit {0}
IsFaultInRange p (fault.Flow f) = IsInRange p f
IsFaultInRange p fault.Memory = Unit {0}
