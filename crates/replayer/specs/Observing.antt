-- Which observers name which variable, and which of them are looked at after a step.
use Rattle.std.specs.Prelude.{◌↔◌, ◌≡◌, ◌<◌, ℕ, List}
use Rattle.std.specs.List.Sorted.{IsNonDecreasingBy}
use Rattle.ar_base.specs.Lists.{Stands, IsOneOf}
use Rattle.ar_base.specs.Numbers.{VarId}
use Rattle.ar_base.specs.Sets.{Ascends}
use Rattle.typed_expr.specs.Mentions.{Mentions}
use Rattle.typed_expr.specs.declared.expr.Expr.{out-Expr}
use Rattle.domains.specs.declared.Value.{Value}
use Rattle.gts_core.specs.Readings.{IsTotal}
use Rattle.gts_core.specs.declared.system.GtsParts.{GtsParts}
use Rattle.gts_core.specs.declared.system.Observer.{Observer}
use Rattle.flow_changes.specs.Changes.{changed_numbers}
use Rattle.replayer.specs.Listing.{IsListReady}
use Rattle.replayer.specs.declared.latest.Latest.{Latest}

-- observer n names variable x
pub record Observes (p : GtsParts) (x n : ℕ) : Type 0 where
  pub observer : Observer
  pub stands : Stands p.observers.items n observer
  pub variable : VarId
  pub is : variable.n ≡ x
  pub names : Mentions variable (out-Expr VarId observer.value)

-- the pairs of a variable and one of the first so many observers that names it
pub record AreObserved (p : GtsParts) (count : ℕ) (pairs : List (ℕ × ℕ)) : Type 0 where
  pub only : (q : ℕ × ℕ) → IsOneOf pairs q → Observes p q.0 q.1
  pub all : (x n : ℕ) → n < count → Observes p x n → IsOneOf pairs (x, n)

-- the pairs of a variable and an observer that names it, by ascending variables
pub record AreInOrder (p : GtsParts) (pairs : List (ℕ × ℕ)) : Type 0 where
  pub only : (q : ℕ × ℕ) → IsOneOf pairs q → Observes p q.0 q.1
  pub all : (x n : ℕ) → Observes p x n → IsOneOf pairs (x, n)
  pub ascending : IsNonDecreasingBy (λ (q : ℕ × ℕ). q.0) pairs

-- observer n names one of these variables
pub record ObserverNamesOne (p : GtsParts) (variables : List VarId) (n : ℕ) : Type 0 where
  pub variable : ℕ
  pub is_one : IsOneOf (changed_numbers variables) variable
  pub observes : Observes p variable n

-- the observers that name one of these variables, ascending
pub record AreTouched (p : GtsParts) (variables : List VarId) (all : List ℕ) : Type 0 where
  pub ascend : Ascends all
  pub each : (n : ℕ) → (IsOneOf all n ↔ ObserverNamesOne p variables n)

-- the valuation that was told last is the present one, each variable's observers are known, and so are the visible
-- ways that can fire, where they are found
pub record IsLatest (p : GtsParts) (t : List Value) (latest : Latest) : Type 0 where
  pub values : latest.values.items ≡ t
  pub total : IsTotal p t
  pub observed : AreInOrder p latest.observed.items
  pub ready : IsListReady p t latest.ready
