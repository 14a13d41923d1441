-- What a lister keeps, and tables of sizes.
use Rattle.std.specs.Prelude.{◌≡◌, ℕ, ◌+◌, ◌≤◌, List, [], ◌∷◌, ◌++◌, map}
use Rattle.std.specs.List.{filter}
use Rattle.ar_base.specs.Lists.{Stands, IsOneOf}
use Rattle.ar_base.specs.Sets.{Ascends}
use Rattle.ar_base.specs.NumbersInside.{EventId}
use Rattle.ar_firing.specs.Forest.{ModeTree}
use Rattle.zdd_nodes.specs.Families.{Family, holds}
use Rattle.zdd_nodes.specs.Behind.{behind_events}
use Rattle.zdd_nodes.specs.Nodes.{Stored, family, IsFamilyNumber}
use Rattle.min_cuts.specs.Sizes.{largest}
use Rattle.min_cuts.specs.declared.steps.Step.{Step}

-- the numbers of the events
abbrev pub numbers_of_set : List EventId → List ℕ
numbers_of_set events = map (λ (e : EventId). e.n) events

-- the events that the steps took
abbrev pub taken_events : List Step → List ℕ
taken_events steps = map (λ (x : Step). x.event.n) steps

-- the sets that the steps left, where the events p were taken before them: the sets that a later step left come first
abbrev pub waiting : Stored → List ℕ → List Step → Family
waiting s p [] = []
waiting s p (x ∷ xs) = waiting s (p ++ x.event.n ∷ []) xs ++ behind_events p (family s x.rest.n)

-- the sets that are still to be given: those of number n behind the events that were taken, then those that were left
abbrev pub to_give : Stored → List Step → ℕ → Family
to_give s steps n = behind_events (taken_events steps) (family s n) ++ waiting s [] steps

-- the set's events as they stand in the order
abbrev pub events_in_order : List ℕ → List ℕ → List ℕ
events_in_order order set = filter (λ e. holds e set) order

-- the events of the trees' edges, tree by tree
abbrev pub edge_events : List ModeTree → List ℕ
edge_events [] = []
edge_events (tree ∷ trees) = map (λ r. r.label.event) tree.edges ++ edge_events trees

-- there is room for the sets of number n behind so many events
pub record HasRoom (s : Stored) (room depth n : ℕ) : Type 0 where
  pub in_store : IsFamilyNumber s n
  pub fits : depth + largest (family s n) ≤ room

-- there is room for the sets that each step left
pub record HaveRoom (s : Stored) (room : ℕ) (steps : List Step) : Type 0 where
  pub each : (k : ℕ) (x : Step) → Stands steps k x → HasRoom s room k x.rest.n

-- each event of the order has its place
pub record AreEventPlaces (order places : List ℕ) : Type 0 where
  pub each : (k e : ℕ) → Stands order k e → Stands places e k

-- the set's events stand in the order
pub record IsInTheOrder (order set : List ℕ) : Type 0 where
  pub ascends : Ascends set
  pub listed : (e : ℕ) → IsOneOf set e → IsOneOf order e

-- the table has what `measure` gives of each family of the first numbers
pub record AreMeasured (measure : Family → ℕ) (s : Stored) (table : List ℕ) : Type 0 where
  pub each : (k x : ℕ) → Stands table k x → x ≡ measure (family s k)

-- each number of the table is at most its place
pub record AreWithinPlaces (table : List ℕ) : Type 0 where
  pub each : (k x : ℕ) → Stands table k x → x ≤ k
