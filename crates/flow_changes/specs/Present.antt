-- What a state determines, kept from change to change.
use Rattle.std.specs.Prelude.{◌≡◌, ℕ, Bool, true, List, length, Result, Ok, Err, ⊤}
use Rattle.ar_base.specs.Lists.{Stands}
use Rattle.ar_base.specs.Numbers.{VarId}
use Rattle.domains.specs.declared.Value.{Value}
use Rattle.ar_meaning.specs.Flows as flows
use Rattle.gts_core.specs.View.{net_of}
use Rattle.gts_core.specs.declared.system.GtsParts.{GtsParts}
use Rattle.flow_propagate.specs.Answers.{fault_of}
use Rattle.flow_propagate.specs.Determined.{IsDetermined, IsDeterminedBy}
use Rattle.flow_propagate.specs.NewValues.{written}
use Rattle.flow_propagate.specs.declared.propagation.PropagateFault.{PropagateFault}
use Rattle.flow_propagate.specs.declared.propagation.PropagateFault.TheVariants as propagates
use Rattle.flow_changes.specs.Restoring.{TellsChanges}
use Rattle.flow_changes.specs.declared.present.Present.{Present}
use Rattle.flow_changes.specs.declared.changes.Changes.{Changes}

-- the total valuation
abbrev pub present_values : Present → List Value
present_values it = it.determined.values.values.items

-- which of its values are facts
abbrev pub known_of : Present → List Bool
known_of it = it.determined.known.items

-- a total valuation that its own state determines with its facts, and for each variable a mark that is unset
pub record IsPresent (p : GtsParts) (it : Present) : Type 0 where
  pub determined : IsDetermined p (present_values it) (known_of it)
  pub long : length it.marks.items ≡ length p.variables.items
  pub unset : (n : ℕ) → Stands it.marks.items n true → ⊥

-- it is what this state determines
pub record IsPresentBy (p : GtsParts) (state : List Value) (it : Present) : Type 0 where
  pub is : IsPresent p it
  pub determined : IsDeterminedBy p state (present_values it) (known_of it)

-- the fault is the one of this state; want of memory says nothing
abbrev pub IsFaultOf : GtsParts → List Value → PropagateFault → Type 0
IsFaultOf p state (propagates.Flow f) = flows.Flows (net_of p) state (flows.Fails (fault_of f))
IsFaultOf p state propagates.Memory = ⊤

-- what the state determines, or its fault
abbrev pub Presents : GtsParts → List Value → Result Present PropagateFault → Type 0
Presents p state (Ok it) = IsPresentBy p state it
Presents p state (Err f) = IsFaultOf p state f

-- what the new values determine, and what changed
pub record Propagates (p : GtsParts) (old : List Value) (old_known : List Bool) (new : List (VarId × Value))
    (values : List Value) (known : List Bool) (c : Changes) : Type 0 where
  pub determined : IsDeterminedBy p (written old new) values known
  pub tells : TellsChanges p old old_known values known c
