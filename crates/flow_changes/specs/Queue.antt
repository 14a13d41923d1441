-- Which places wait.
use Rattle.std.specs.Prelude.{◌≡◌, ◌+◌, ◌-◌, ◌≤◌, ◌⊎◌, ℕ, List, length}
use Rattle.std.specs.BTreeSet.{btree_set_len}
use Rattle.ar_base.specs.Lists.{Stands, IsOneOf}
use Rattle.flow_propagate.specs.Plan.{Reader}
use Rattle.flow_propagate.specs.Closing.{IsAddedAgain}
use Rattle.flow_changes.specs.declared.queue.Queue.{Queue}

-- no number is less than one before it
abbrev pub NeverFalls : List ℕ → Type 0
NeverFalls list = (i j a b : ℕ) → i ≤ j → Stands list i a → Stands list j b → a ≤ b

-- the number stands in the list at this place or after it
pub record IsLater (list : List ℕ) (next q : ℕ) : Type 0 where
  pub at : ℕ
  pub later : next ≤ at
  pub stands : Stands list at q

-- the place waits: it was not taken yet, or it was added again
abbrev pub PlaceWaits : Queue → ℕ → Type 0
PlaceWaits work q = IsLater work.list.items work.next q ⊎ IsAddedAgain work.again q

-- the list ascends, and what was added again is of it
pub record IsQueue (work : Queue) : Type 0 where
  pub reached : work.next ≤ length work.list.items
  pub rises : NeverFalls work.list.items
  pub within : (q : ℕ) → IsAddedAgain work.again q → IsOneOf work.list.items q

-- how many wait
abbrev pub waiting_places : Queue → ℕ
waiting_places work = (length work.list.items - work.next) + btree_set_len work.again

-- the place was taken
pub record TakesPlace (place : ℕ) (old new : Queue) : Type 0 where
  pub is : IsQueue new
  pub same : new.list.items ≡ old.list.items
  pub one : IsOneOf old.list.items place
  pub less : waiting_places old ≡ waiting_places new + 1
  pub others : (q : ℕ) → PlaceWaits old q → (q ≡ place) ⊎ PlaceWaits new q

-- the places that have P were added, by so many steps at most
pub record AddsPlaces (most : ℕ) (P : ℕ → Type 0) (old new : Queue) : Type 0 where
  pub is : IsQueue new
  pub same : new.list.items ≡ old.list.items
  pub few : waiting_places new ≤ waiting_places old + most
  pub keeps : (q : ℕ) → PlaceWaits old q → PlaceWaits new q
  pub adds : (q : ℕ) → P q → PlaceWaits new q

-- the place of an assignment of one of the pairs
pub record IsPairPlace (places : List ℕ) (pairs : List Reader) (q : ℕ) : Type 0 where
  pub pair : Reader
  pub is_one : IsOneOf pairs pair
  pub stands : Stands places pair.1.n q
