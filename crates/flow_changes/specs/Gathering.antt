-- What is gathered for the members of a cone, and how the cone is found.
use Rattle.std.specs.Prelude.{◌≡◌, ◌↔◌, ◌<◌, ◌≤◌, ◌+◌, ◌⊎◌, ℕ, Bool, true, List, length}
use Rattle.ar_base.specs.Lists.{Stands, IsOneOf}
use Rattle.ar_base.specs.Numbers.{VarId}
use Rattle.domains.specs.declared.Value.{Value}
use Rattle.ar_meaning.specs.Dependence.{Names}
use Rattle.gts_core.specs.View.{assign_of}
use Rattle.gts_core.specs.declared.system.Assign.{Assign}
use Rattle.gts_core.specs.declared.system.GtsParts.{GtsParts}
use Rattle.flow_propagate.specs.Plan.{Reader}
use Rattle.flow_propagate.specs.NewValues.{IsRenewed}
use Rattle.flow_changes.specs.Cone.{IsFlowAt}
use Rattle.flow_changes.specs.Known.{unmarked}
use Rattle.flow_changes.specs.Queue.{IsPairPlace}

-- the list got the places of the assignments of these pairs
pub record GathersPlaces (places : List ℕ) (pairs : List Reader) (old new : List ℕ) : Type 0 where
  pub grows : (q : ℕ) → IsOneOf old q → IsOneOf new q
  pub only : (q : ℕ) → IsOneOf new q → IsOneOf old q ⊎ IsPairPlace places pairs q
  pub all : (q : ℕ) → IsPairPlace places pairs q → IsOneOf new q

-- the place of an assignment to one of the members
pub record IsPlaceTo (givers : List Reader) (places members : List ℕ) (q : ℕ) : Type 0 where
  pub pair : Reader
  pub is_one : IsOneOf givers pair
  pub member : IsOneOf members pair.0.n
  pub stands : Stands places pair.1.n q

-- these are the places of the assignments to the members
pub record ArePlacesTo (givers : List Reader) (places members list : List ℕ) : Type 0 where
  pub only : (q : ℕ) → IsOneOf list q → IsPlaceTo givers places members q
  pub all : (q : ℕ) → IsPlaceTo givers places members q → IsOneOf list q

-- the numbers that have P were marked, too; those that were not marked before went last in the list
pub record Sees (P : ℕ → Type 0) (marks : List Bool) (found : List ℕ) (marks_then : List Bool)
    (found_then : List ℕ) : Type 0 where
  pub front : (j n : ℕ) → Stands found j n → Stands found_then j n
  pub longer : length found ≤ length found_then
  pub only : (n : ℕ) → IsOneOf found_then n → IsOneOf found n ⊎ P n
  pub all : (n : ℕ) → P n → IsOneOf found_then n
  pub left : unmarked marks_then + length found_then ≡ unmarked marks + length found

-- the target of an assignment of one of the pairs
pub record IsTargetOf (p : GtsParts) (pairs : List Reader) (n : ℕ) : Type 0 where
  pub pair : Reader
  pub is_one : IsOneOf pairs pair
  pub assign : Assign
  pub stands : Stands p.assigns.items pair.1.n assign
  pub is : assign.target.n ≡ n

-- what was reached so far: the readers of the first so many members have their targets among them
pub record IsFollowed (p : GtsParts) (new : List (VarId × Value)) (found : List ℕ) (at : ℕ) : Type 0 where
  pub starts : (n : ℕ) → IsRenewed new n → IsOneOf found n
  pub only : (n : ℕ) → IsOneOf found n → IsRenewed new n ⊎ IsFlowAt p n
  pub closed : (k n m : ℕ) (a : Assign) → k < at → Stands found k n → Stands p.assigns.items m a → Names (assign_of a) n
      → IsOneOf found a.target.n
