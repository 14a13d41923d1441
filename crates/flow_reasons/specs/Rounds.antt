-- The rounds in which the facts of a state come.
use Rattle.std.specs.Prelude.{◌≡◌, ◌⊎◌, ℕ, zero, suc, List}
use Rattle.ar_base.specs.Lists.{IsOneOf}
use Rattle.domains.specs.declared.Value.{Value}
use Rattle.typed_expr.specs.Yields.{Yields}
use Rattle.typed_expr.specs.declared.expr.Expr.{out-Expr}
use Rattle.ar_meaning.specs.Systems.{Assign, Net}
use Rattle.ar_meaning.specs.Facts.{PassesConditions, Allows, HasStateValue}

-- the assignment is one to the variable, the facts reach it, and from them it yields the value, which the variable's
-- domain has
pub record AddsFact {V : Type 0} (net : Net V) (facts : V → Value → Type 0) (x : V) (v : Value) (a : Assign V) : Type
    0 where
  pub is_target : a.target ≡ x
  pub passes : PassesConditions facts a.conditions
  pub yields : Yields facts (out-Expr V a.value) v
  pub allowed : Allows net x v

-- an assertion adds the value to the variable from the facts
pub record IsAdded {V : Type 0} (net : Net V) (facts : V → Value → Type 0) (x : V) (v : Value) : Type 0 where
  pub assign : Assign V
  pub is_one : IsOneOf net.assertions assign
  pub adds : AddsFact net facts x v assign

-- what stands after so many rounds: after none what the state gives, and after one more what stood before it and what
-- the assertions add from that
abbrev pub Round : {V : Type 0} → Net V → List Value → ℕ → V → Value → Type 0
Round net t zero x v = HasStateValue net t x v
Round net t (suc k) x v = Round net t k x v ⊎ IsAdded net (Round net t k) x v
