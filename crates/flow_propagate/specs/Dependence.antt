-- The flows' places among the flows, and their dependences.
use Rattle.std.specs.Prelude.{◌≡◌, ◌<◌, ◌⊎◌, ℕ, not, List, length, take, count_by}
use Rattle.ar_base.specs.Lists.{Stands, IsOneOf}
use Rattle.ar_meaning.specs.Dependence.{IsFlow, DependsOn}
use Rattle.gts_core.specs.View.{net_of}
use Rattle.gts_core.specs.declared.system.Variable.{Variable}
use Rattle.gts_core.specs.declared.system.Assign.{Assign}
use Rattle.gts_core.specs.declared.system.GtsParts.{GtsParts}

-- how many of the variables are flows
abbrev pub flows_in : List Variable → ℕ
flows_in xs = count_by (λ (x : Variable). not x.is_state) xs

-- for each of the first so many variables, how many flows stand before it
pub record ArePlaces (variables : List Variable) (count : ℕ) (before : List ℕ) : Type 0 where
  pub long : length before ≡ count
  pub place : (n : ℕ) → n < count → Stands before n (flows_in (take n variables))

-- the pairs got those of the target of assignment n and of variable x, where these are flows
pub record AddsUse (p : GtsParts) (x n : ℕ) (old new : List (ℕ × ℕ)) : Type 0 where
  pub grows : (q : ℕ × ℕ) → IsOneOf old q → IsOneOf new q
  pub only : (a b : ℕ) → IsOneOf new (a, b) → IsOneOf old (a, b) ⊎ DependsOn (net_of p) a b
  pub all : (a b : ℕ) (assign : Assign) → Stands p.assigns.items n assign → IsFlow (net_of p) a assign.target.n
      → IsFlow (net_of p) b x → IsOneOf new (a, b)

-- the same for the first so many of the pairs of a variable and an assignment that names it
pub record AreUsesSoFar (p : GtsParts) (readers : List (ℕ × ℕ)) (count : ℕ) (uses : List (ℕ × ℕ)) : Type 0 where
  pub only : (a b : ℕ) → IsOneOf uses (a, b) → DependsOn (net_of p) a b
  pub all : (k x n a b : ℕ) (assign : Assign) → k < count → Stands readers k (x, n) → Stands p.assigns.items n assign
      → IsFlow (net_of p) a assign.target.n → IsFlow (net_of p) b x → IsOneOf uses (a, b)
