-- What a propagation answers.
use Rattle.std.specs.Prelude.{◌≡◌, true, ℕ, List, Result, Ok, Err, ⊤, length}
use Rattle.ar_base.specs.Lists.{Stands}
use Rattle.domains.specs.Domains.{Holds}
use Rattle.domains.specs.declared.Value.{Value}
use Rattle.ar_meaning.specs.Systems.{Net}
use Rattle.ar_meaning.specs.Flows as flows
use Rattle.gts_core.specs.declared.system.Variable.{Variable}
use Rattle.gts_core.specs.declared.system.GtsParts.{GtsParts}
use Rattle.gts_core.specs.declared.system.Valuation.{Valuation}
use Rattle.flow_propagate.specs.declared.propagation.FlowFault.{FlowFault}
use Rattle.flow_propagate.specs.declared.propagation.FlowFault.TheVariants as fault
use Rattle.flow_propagate.specs.declared.propagation.PropagateFault.{PropagateFault}
use Rattle.flow_propagate.specs.declared.propagation.PropagateFault.TheVariants as propagates

-- a flow fault by numbers
abbrev pub fault_of : FlowFault → flows.FlowFault
fault_of (fault.Two x) = flows.Two x.n
fault_of (fault.Outside x) = flows.Outside x.n
fault_of (fault.Broken a) = flows.Broken a.n

-- the total valuation that the state determines, or the fault; want of memory says nothing
abbrev pub IsFlowAnswer : Net ℕ → List Value → Result Valuation PropagateFault → Type 0
IsFlowAnswer net t (Ok total) = flows.Flows net t (flows.Total total.values.items)
IsFlowAnswer net t (Err (propagates.Flow f)) = flows.Flows net t (flows.Fails (fault_of f))
IsFlowAnswer net t (Err propagates.Memory) = ⊤

-- a valuation with a value for each variable, those of state variables in their domains
pub record IsState (p : GtsParts) (values : List Value) : Type 0 where
  pub long : length values ≡ length p.variables.items
  pub in_domain : (n : ℕ) (x : Variable) (v : Value) → Stands p.variables.items n x → x.is_state ≡ true
      → Stands values n v → Holds x.domain v
