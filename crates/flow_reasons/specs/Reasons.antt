-- Why flows have their values, and which variables the value of an observer rests on.
use Rattle.std.specs.Prelude.{◌≡◌, ◌+◌, ℕ, suc, true, false, List, [], ◌∷◌, Option, Some, None}
use Rattle.ar_base.specs.Lists.{Stands, IsOneOf, IsFirst}
use Rattle.ar_base.specs.Sets.{Ascends}
use Rattle.domains.specs.declared.Value.{Value}
use Rattle.typed_expr.specs.Mentions.{Mentions}
use Rattle.typed_expr.specs.declared.expr.Expr.{Expr, out-Expr}
use Rattle.ar_meaning.specs.Systems.{Assign, Variable, Net}
use Rattle.ar_meaning.specs.Facts.{FactOf}
use Rattle.ar_meaning.specs.Dependence.{Names}
use Rattle.flow_reasons.specs.Rounds.{Round, AddsFact}

-- a reason by numbers: the flow, its value, the round, the assignment that adds the value if one does, and the
-- variables that it rests on
pub record Reason : Type 0 where
  pub flow : ℕ
  pub value : Value
  pub round : ℕ
  pub by : Option ℕ
  pub rests_on : List ℕ

-- the assignment names the variable of this number in its value or in a condition, and the variable has one of the
-- facts
pub record IsNamedFact {V : Type 0} (net : Net V) (facts : V → Value → Type 0) (a : Assign V) (n : ℕ) : Type 0 where
  pub variable : Variable V
  pub stands : Stands net.variables n variable
  pub names : Names a variable.key
  pub value : Value
  pub has : facts variable.key value

-- the variables that the assignment names and that have a fact, by number, each once
pub record RestsOn {V : Type 0} (net : Net V) (facts : V → Value → Type 0) (a : Assign V) (numbers : List ℕ) : Type
    0 where
  pub ascends : Ascends numbers
  pub sound : (n : ℕ) → IsOneOf numbers n → IsNamedFact net facts a n
  pub whole : (n : ℕ) → IsNamedFact net facts a n → IsOneOf numbers n

-- the value comes in a round: it does not stand after the rounds before, of the assertions that add it then the reason
-- has the first, and it rests on the variables that this one names and that had a fact before
pub record IsDerived {V : Type 0} (net : Net V) (t : List Value) (x : Variable V) (r : Reason) : Type 0 where
  pub before : ℕ
  pub round : r.round ≡ suc before
  pub not_yet : Round net t before x.key r.value → ⊥
  pub assertion : ℕ
  pub by : r.by ≡ Some assertion
  pub first : IsFirst net.assertions (AddsFact net (Round net t before) x.key r.value) assertion
  pub rests_on : RestsOn net (Round net t before) first.item r.rests_on

-- no fact comes for the flow, and it has its reset: in no round, by no assignment, and resting on nothing
pub record IsReset {V : Type 0} (net : Net V) (t : List Value) (x : Variable V) (r : Reason) : Type 0 where
  pub no_fact : (v : Value) → FactOf net t x.key v → ⊥
  pub value : r.value ≡ x.value
  pub round : r.round ≡ 0
  pub by : r.by ≡ None
  pub rests_on : r.rests_on ≡ []

-- why the flow has its value
pub data IsReason {V : Type 0} (net : Net V) (t : List Value) (x : Variable V) (r : Reason) : Type 0 where
  derived : IsDerived net t x r → IsReason net t x r
  reset : IsReset net t x r → IsReason net t x r

-- the reasons of the flows among these variables, which are numbered from n on: one of each flow, in their order
pub data AreReasonsFrom {V : Type 0} (net : Net V) (t : List Value) : ℕ → List (Variable V) → List Reason → Type 0 where
  none : {n : ℕ} → AreReasonsFrom net t n [] []
  state : {n : ℕ} {x : Variable V} {xs : List (Variable V)} {rs : List Reason} → x.is_state ≡ true
      → AreReasonsFrom net t (n + 1) xs rs → AreReasonsFrom net t n (x ∷ xs) rs
  flow : {n : ℕ} {x : Variable V} {xs : List (Variable V)} {r : Reason} {rs : List Reason} → x.is_state ≡ false
      → r.flow ≡ n → IsReason net t x r
      → AreReasonsFrom net t (n + 1) xs rs → AreReasonsFrom net t n (x ∷ xs) (r ∷ rs)

-- the reasons of a state: one of each flow, in their order
abbrev pub AreReasons : {V : Type 0} → Net V → List Value → List Reason → Type 0
AreReasons net t rs = AreReasonsFrom net t 0 net.variables rs

-- the cone of an expression, the least set: the variables that it names, and with each flow the variables that its
-- reason rests on
pub data InCone {V : Type 0} (net : Net V) (reasons : List Reason) (e : Expr V) : ℕ → Type 0 where
  named : {n : ℕ} (x : Variable V) → Stands net.variables n x → Mentions x.key (out-Expr V e) → InCone net reasons e n
  rested_on : {n : ℕ} (r : Reason) → IsOneOf reasons r → InCone net reasons e r.flow → IsOneOf r.rests_on n
      → InCone net reasons e n
