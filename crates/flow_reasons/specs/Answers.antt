-- What reasons answer.
use Rattle.std.specs.Prelude.{ℕ, ⊤, List, map, Result, Ok, Err, Vec}
use Rattle.std.specs.Option.{option_map}
use Rattle.std.specs.Global.{Global}
use Rattle.ar_base.specs.Numbers.{VarId}
use Rattle.ar_base.specs.NumbersInside.{AssignId}
use Rattle.domains.specs.declared.Value.{Value}
use Rattle.ar_meaning.specs.Systems.{Net}
use Rattle.ar_meaning.specs.Flows.{Flows, Fails}
use Rattle.ar_firing.specs.Operands.{HasFlows}
use Rattle.flow_reasons.specs.Reasons.{AreReasons}
use Rattle.flow_reasons.specs.Reasons as rounds
use Rattle.gts_core.specs.View.{net_of}
use Rattle.gts_core.specs.declared.system.GtsParts.{GtsParts}
use Rattle.flow_propagate.specs.Answers.{fault_of}
use Rattle.flow_propagate.specs.declared.propagation.PropagateFault.{PropagateFault}
use Rattle.flow_propagate.specs.declared.propagation.PropagateFault.TheVariants.{Flow, Memory}
use Rattle.flow_reasons.specs.declared.reason.Reason.{Reason}

-- the plain numbers of these variables
abbrev pub numbers_of : List VarId → List ℕ
numbers_of xs = map (λ (x : VarId). x.n) xs

-- a reason by plain numbers
abbrev pub reason_of : Reason → rounds.Reason
reason_of r = record {
  flow = r.flow.n;
  value = r.value;
  round = r.round;
  by = option_map (λ (a : AssignId). a.n) r.by;
  rests_on = numbers_of r.rests_on.items;
}

-- these reasons by plain numbers
abbrev pub reasons_of : List Reason → List rounds.Reason
reasons_of rs = map reason_of rs

-- the reasons of the state, which has flows
pub record AreReasonsOf (net : Net ℕ) (t : List Value) (reasons : List Reason) : Type 0 where
  pub flows : HasFlows net t
  pub are : AreReasons net t (reasons_of reasons)

-- the reasons of the state, or the fault of its flows; want of memory says nothing
abbrev pub IsReasonsAnswer : Net ℕ → List Value → Result (Vec Reason Global) PropagateFault → Type 0
IsReasonsAnswer net t (Ok reasons) = AreReasonsOf net t reasons.items
IsReasonsAnswer net t (Err (Flow f)) = Flows net t (Fails (fault_of f))
IsReasonsAnswer net t (Err Memory) = ⊤

-- the reasons are those of some state of the system
pub record AreOfState (p : GtsParts) (reasons : List Reason) : Type 0 where
  pub values : List Value
  pub are : AreReasons (net_of p) values (reasons_of reasons)
