-- The pairs that are gathered for the variables that an assignment names.
use Rattle.std.specs.Prelude.{◌≡◌, ◌<◌, ℕ, ◌⊎◌, List}
use Rattle.ar_base.specs.Lists.{Stands, IsOneOf}
use Rattle.ar_base.specs.Numbers.{VarId}
use Rattle.gts_core.specs.View.{net_of}
use Rattle.gts_core.specs.declared.system.Assign.{Assign}
use Rattle.gts_core.specs.declared.system.GtsParts.{GtsParts}
use Rattle.ar_meaning.specs.DependenceInside.{IsReadBy}
use Rattle.flow_propagate.specs.Plan.{ComesBefore}

-- a variable that has P, by its number, with the assignment's
pub record IsPairFor (n : ℕ) (P : VarId → Type 0) (q : ℕ × ℕ) : Type 0 where
  pub variable : VarId
  pub has : P variable
  pub first : q.0 ≡ variable.n
  pub second : q.1 ≡ n

-- the list got the pairs of assignment n and the variables that have P
pub record AddsNamed (n : ℕ) (P : VarId → Type 0) (old new : List (ℕ × ℕ)) : Type 0 where
  pub grows : (q : ℕ × ℕ) → IsOneOf old q → IsOneOf new q
  pub only : (q : ℕ × ℕ) → IsOneOf new q → IsOneOf old q ⊎ IsPairFor n P q
  pub all : (x : VarId) → P x → IsOneOf new (x.n, n)

-- the pairs of a variable and one of the first so many assignments that names it
pub record AreNamed (p : GtsParts) (count : ℕ) (pairs : List (ℕ × ℕ)) : Type 0 where
  pub only : (q : ℕ × ℕ) → IsOneOf pairs q → IsReadBy (net_of p) q.0 q.1
  pub all : (x n : ℕ) → n < count → IsReadBy (net_of p) x n → IsOneOf pairs (x, n)

-- the pairs of the target of one of the first so many assignments and the assignment's number
pub record AreTargets (p : GtsParts) (count : ℕ) (pairs : List (ℕ × ℕ)) : Type 0 where
  pub only : (x n : ℕ) → IsOneOf pairs (x, n) → (a : Assign) × Stands p.assigns.items n a × (a.target.n ≡ x)
  pub all : (n : ℕ) (a : Assign) → n < count → Stands p.assigns.items n a → IsOneOf pairs (a.target.n, n)

-- the same pairs, ascending, each once
pub record ArePairsSorted (pairs sorted : List (ℕ × ℕ)) : Type 0 where
  pub all : (q : ℕ × ℕ) → IsOneOf pairs q → IsOneOf sorted q
  pub only : (q : ℕ × ℕ) → IsOneOf sorted q → IsOneOf pairs q
  pub ascending : (j k : ℕ) (q r : ℕ × ℕ) → j < k → Stands sorted j q → Stands sorted k r → ComesBefore q r
