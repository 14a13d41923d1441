-- Which variables an assignment names, and how the flows of a net depend on each other.
use Rattle.std.specs.Prelude.{◌≡◌, ◌⊎◌, ℕ, Bool, false, not, List, ◌∷◌, take, count_by}
use Rattle.ar_base.specs.Lists.{Stands, IsOneOf}
use Rattle.typed_expr.specs.Mentions.{Mentions}
use Rattle.typed_expr.specs.declared.expr.Expr.{Expr, out-Expr}
use Rattle.ar_meaning.specs.Systems.{Assign, Variable, Net}

-- a condition names the variable
pub data Tests {V : Type 0} (x : V) : List (Expr V × Bool) → Type 0 where
  in_this : {e : Expr V} {b : Bool} {cs : List (Expr V × Bool)} → Mentions x (out-Expr V e) → Tests x ((e, b) ∷ cs)
  in_later : {e : Expr V} {b : Bool} {cs : List (Expr V × Bool)} → Tests x cs → Tests x ((e, b) ∷ cs)

-- the assignment names the variable in its value or in a condition
abbrev pub Names : {V : Type 0} → Assign V → V → Type 0
Names {V} a x = Mentions x (out-Expr V a.value) ⊎ Tests x a.conditions

-- how many of the variables are flows
abbrev pub flow_count : {V : Type 0} → List (Variable V) → ℕ
flow_count xs = count_by (λ x. not x.is_state) xs

-- flow k is this variable: a flow, before which k flows stand
pub record IsFlow {V : Type 0} (net : Net V) (k : ℕ) (x : V) : Type 0 where
  pub place : ℕ
  pub variable : Variable V
  pub stands : Stands net.variables place variable
  pub is_key : variable.key ≡ x
  pub is_flow : variable.is_state ≡ false
  pub before : flow_count (take place net.variables) ≡ k

-- flow a depends on flow b: an assignment to a names b
pub record DependsOn {V : Type 0} (net : Net V) (a b : ℕ) : Type 0 where
  pub assign : Assign V
  pub is_one : IsOneOf net.assertions assign
  pub to : IsFlow net a assign.target
  pub named : V
  pub names : Names assign named
  pub other : IsFlow net b named

-- the pairs of flows of which the first depends on the second
pub record AreUses {V : Type 0} (net : Net V) (uses : List (ℕ × ℕ)) : Type 0 where
  pub only : (a b : ℕ) → IsOneOf uses (a, b) → DependsOn net a b
  pub all : (a b : ℕ) → DependsOn net a b → IsOneOf uses (a, b)
