-- The facts that follow from a state. A valuation is a list of values in the order of the variables.
use Rattle.std.specs.Prelude.{◌≡◌, ℕ, Bool, true, List, [], ◌∷◌, Contains}
use Rattle.ar_base.specs.Lists.{Stands, IsOneOf}
use Rattle.domains.specs.declared.Value.{Value}
use Rattle.domains.specs.declared.Value.TheVariants.{Truth}
use Rattle.typed_expr.specs.Pairs.{Pair, HasPair}
use Rattle.typed_expr.specs.Yields.{Yields}
use Rattle.typed_expr.specs.declared.expr.Expr.{Expr, out-Expr}
use Rattle.ar_meaning.specs.Systems.{Assign, Variable, Net}

-- every condition yields from the facts the truth value that it must have
pub data PassesConditions {V : Type 0} (facts : V → Value → Type 0) : List (Expr V × Bool) → Type 0 where
  none : PassesConditions facts []
  one_and : {e : Expr V} {b : Bool} {cs : List (Expr V × Bool)} → Yields facts (out-Expr V e) (Truth b)
      → PassesConditions facts cs → PassesConditions facts ((e, b) ∷ cs)

-- the least facts: what the state gives, and what an assignment yields for its target where facts K reach it, if the
-- target's domain has the value
pub data Fact {V : Type 0} (assigns : List (Assign V)) (allows state : V → Value → Type 0) : V → Value → Type 0 where
  given : {x : V} {v : Value} → state x v → Fact assigns allows state x v
  assigned : (a : Assign V) {v : Value} (K : List (Pair V)) → IsOneOf assigns a
      → ((x : V) (w : Value) → HasPair K x w → Fact assigns allows state x w)
      → PassesConditions (HasPair K) a.conditions → Yields (HasPair K) (out-Expr V a.value) v → allows a.target v
      → Fact assigns allows state a.target v

-- the variable's domain has the value
pub record Allows {V : Type 0} (net : Net V) (x : V) (v : Value) : Type 0 where
  pub place : ℕ
  pub variable : Variable V
  pub stands : Stands net.variables place variable
  pub is_key : variable.key ≡ x
  pub has : Contains variable.domain v

-- the valuation gives the variable this value
pub record HasValue {V : Type 0} (net : Net V) (t : List Value) (x : V) (v : Value) : Type 0 where
  pub place : ℕ
  pub variable : Variable V
  pub stands : Stands net.variables place variable
  pub is_key : variable.key ≡ x
  pub value : Stands t place v

-- the valuation gives the state variable this value
pub record HasStateValue {V : Type 0} (net : Net V) (t : List Value) (x : V) (v : Value) : Type 0 where
  pub place : ℕ
  pub variable : Variable V
  pub stands : Stands net.variables place variable
  pub is_key : variable.key ≡ x
  pub is_state : variable.is_state ≡ true
  pub value : Stands t place v

-- the facts that follow from the state variables' values
abbrev pub FactOf : {V : Type 0} → Net V → List Value → V → Value → Type 0
FactOf net t = Fact net.assertions (Allows net) (HasStateValue net t)
