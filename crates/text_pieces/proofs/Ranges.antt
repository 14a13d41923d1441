-- The numbers that faults tell are those of the system.
use Rattle.std.proofs.Common.{◌≡◌, ◌<◌, ℕ, List, length, subst, arith}
use Rattle.std.proofs.lemmas.List.{length-map}
use Rattle.ar_base.proofs.Standing.{stands_within}
use Rattle.domains.specs.declared.Value.{Value}
use Rattle.ar_meaning.specs.Systems as s
use Rattle.ar_meaning.specs.Flows as flows
use Rattle.ar_meaning.specs.Steps.{Step, Refused, flow}
use Rattle.ar_meaning.specs.Steps as steps
use Rattle.flow_propagate.specs.Answers.{fault_of}
use Rattle.flow_propagate.specs.declared.propagation.FlowFault.{FlowFault}
use Rattle.flow_propagate.specs.declared.propagation.FlowFault.TheVariants as found
use Rattle.gts_core.specs.View.{IsWayAt, net_of, assign_of}
use Rattle.gts_core.specs.Sound.{IsSound}
use Rattle.gts_core.specs.declared.system.GtsParts.{GtsParts}
use Rattle.gts_core.proofs.Viewing.{variables_long}
use Rattle.stepper.specs.Steps.{Standing, IsStepFault}
use Rattle.stepper.specs.declared.faults.StepFault.{StepFault}
use Rattle.stepper.specs.declared.faults.StepFault.TheVariants as fault
use Rattle.text_pieces.specs.Faults.{IsInRange, IsFaultInRange}

-- the number of a fault of the flows is in range
pub flows_inside : (p : GtsParts) (t : List Value) (f : FlowFault) → flows.Flows (net_of p) t (flows.Fails (fault_of f))
    → IsInRange p f
flows_inside p t (found.Two x) (flows.two h) =
    let w = stands_within (net_of p).variables x.n h.item h.stands in
    omega (arith, w, variables_long 0 p.variables.items)
flows_inside p t (found.Outside x) (flows.outside n h) =
    let w = stands_within (net_of p).variables x.n h.item h.stands in
    omega (arith, w, variables_long 0 p.variables.items)
flows_inside p t (found.Broken a) (flows.broken total n m c h) =
    let w = stands_within (net_of p).assertions a.n h.item h.stands in
    omega (arith, w, length-map p.assigns.items assign_of)

step_inside : (p : GtsParts) (t : List Value) (w : s.Way ℕ) (f : FlowFault)
    → Step (net_of p) t w (Refused (steps.Flow (fault_of f))) → IsInRange p f
step_inside p t w f (flow state c n m r h) = flows_inside p state f h

-- so is that of a fault of a step
pub fault_inside : (p : GtsParts) (t : List Value) (w : s.Way ℕ) (f : StepFault) → IsStepFault (net_of p) t w f
    → IsFaultInRange p f
fault_inside p t w fault.NotEnabled h = tt
fault_inside p t w (fault.Clash x) h = tt
fault_inside p t w (fault.Range x) h = tt
fault_inside p t w (fault.Flow f) h = step_inside p t w f h
fault_inside p t w fault.Memory h = tt

-- so is that of the fault of a way that was fired
pub fire_inside : (p : GtsParts) (sound : IsSound p) (n : ℕ) → n < length p.ways.items → (before : Standing)
    → before.system ≡ p → (f : StepFault)
    → ((w : s.Way ℕ) → IsWayAt before.system n w → IsStepFault (net_of before.system) before.values w f)
    → IsFaultInRange p f
fire_inside p sound n inside before same f is =
    let tree = sound.trees n inside in
    let own = subst (λ (q : GtsParts). (w : s.Way ℕ) → IsWayAt q n w → IsStepFault (net_of q) before.values w f) same
    is in
    fault_inside p before.values tree.0 f (own tree.0 tree.1)
