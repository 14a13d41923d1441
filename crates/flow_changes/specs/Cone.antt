-- What a change of the state reaches.
use Rattle.std.specs.Prelude.{◌≡◌, ◌⊎◌, ℕ, true, false, Bool, List}
use Rattle.ar_base.specs.Lists.{Stands, IsOneOf}
use Rattle.ar_base.specs.Numbers.{VarId}
use Rattle.ar_base.specs.Sets.{Ascends}
use Rattle.domains.specs.declared.Value.{Value}
use Rattle.typed_expr.specs.Yields.{Yields}
use Rattle.typed_expr.specs.declared.expr.Expr.{out-Expr}
use Rattle.ar_meaning.specs.Systems as s
use Rattle.ar_meaning.specs.Facts.{PassesConditions}
use Rattle.ar_meaning.specs.Dependence.{Names}
use Rattle.flow_propagate.specs.NewValues.{IsRenewed}
use Rattle.gts_core.specs.View.{assign_of}
use Rattle.gts_core.specs.declared.system.Assign.{Assign}
use Rattle.gts_core.specs.declared.system.Variable.{Variable}
use Rattle.gts_core.specs.declared.system.GtsParts.{GtsParts}

-- the variable of this number is a flow
pub record IsFlowAt (p : GtsParts) (n : ℕ) : Type 0 where
  pub variable : Variable
  pub stands : Stands p.variables.items n variable
  pub is_flow : variable.is_state ≡ false

-- what a change reaches, ascending: the state variables that get new values, and with each variable the flows that
-- assignments give values which name it
pub record IsCone (p : GtsParts) (new : List (VarId × Value)) (members : List ℕ) : Type 0 where
  pub ascend : Ascends members
  pub starts : (n : ℕ) → IsRenewed new n → IsOneOf members n
  pub only : (n : ℕ) → IsOneOf members n → IsRenewed new n ⊎ IsFlowAt p n
  pub closed : (n m : ℕ) (a : Assign) → IsOneOf members n → Stands p.assigns.items m a → Names (assign_of a) n
      → IsOneOf members a.target.n

-- the value of the variable of this number is known
pub record Knows (values : List Value) (known : List Bool) (n : ℕ) (v : Value) : Type 0 where
  pub marked : Stands known n true
  pub value : Stands values n v

-- the facts have what the assignment yields from them
abbrev pub HasAll : (ℕ → Value → Type 0) → s.Assign ℕ → Type 0
HasAll facts a = (v : Value) → PassesConditions facts a.conditions → Yields facts (out-Expr ℕ a.value) v
    → facts a.target v
