-- What a state determines, with which of its values are facts.
use Rattle.std.specs.Prelude.{◌≡◌, ℕ, List, [], Bool, false, if◌then◌else◌, length, slice_get, unwrap_or, Contains, Result, Ok, Err, ⊤}
use Rattle.domains.specs.declared.Value.{Value}
use Rattle.ar_meaning.specs.Systems.{Net}
use Rattle.ar_meaning.specs.Facts.{FactOf}
use Rattle.ar_meaning.specs.Flows as flows
use Rattle.gts_core.specs.Readings.{IsTotal, valuation_values}
use Rattle.gts_core.specs.View.{net_of}
use Rattle.gts_core.specs.declared.system.GtsParts.{GtsParts}
use Rattle.flow_propagate.specs.Answers.{fault_of}
use Rattle.flow_propagate.specs.declared.determined.Determined.{Determined}
use Rattle.flow_propagate.specs.declared.propagation.PropagateFault.{PropagateFault}
use Rattle.flow_propagate.specs.declared.propagation.PropagateFault.TheVariants as propagates

-- the value of the variable of this number, where it is known
abbrev pub marked_value_at : List Value → List Bool → ℕ → List Value
marked_value_at values known n = if unwrap_or (slice_get known n) false then valuation_values values n else []

-- the valuation and its marks tell this value for the variable
abbrev pub TellsValue : List Value → List Bool → ℕ → Value → Type 0
TellsValue values known n v = Contains (marked_value_at values known n) v

-- they tell exactly the facts of the state
pub record TellFacts (net : Net ℕ) (t values : List Value) (known : List Bool) : Type 0 where
  pub sound : (n : ℕ) (v : Value) → TellsValue values known n v → FactOf net t n v
  pub complete : (n : ℕ) (v : Value) → FactOf net t n v → TellsValue values known n v

-- a total valuation that its own state determines, and for each variable whether its value is a fact
pub record IsDetermined (p : GtsParts) (values : List Value) (known : List Bool) : Type 0 where
  pub total : IsTotal p values
  pub flows : flows.Flows (net_of p) values (flows.Total values)
  pub long : length known ≡ length p.variables.items
  pub facts : TellFacts (net_of p) values values known

-- it is the one that this state determines
pub record IsDeterminedBy (p : GtsParts) (state : List Value) (values : List Value) (known : List Bool) : Type 0 where
  pub is : IsDetermined p values known
  pub flows : flows.Flows (net_of p) state (flows.Total values)

-- what the state determines, or the fault; want of memory says nothing
abbrev pub Determines : GtsParts → List Value → Result Determined PropagateFault → Type 0
Determines p state (Ok it) = IsDeterminedBy p state it.values.values.items it.known.items
Determines p state (Err (propagates.Flow f)) = flows.Flows (net_of p) state (flows.Fails (fault_of f))
Determines p state (Err propagates.Memory) = ⊤
