-- What the walk through the firable sets keeps.
use Rattle.std.specs.Prelude.{◌≡◌, ◌+◌, ◌<◌, ◌≤◌, ℕ, Bool, true, false, not, ◌&&◌, eqb, List, [], ◌∷◌, map, Option, Some, None}
use Rattle.std.specs.List.{filter}
use Rattle.std.specs.Option.{option_eq}
use Rattle.std.specs.Map.{lookup}
use Rattle.std.specs.Cmp.Lexicographic.{pointwise}
use Rattle.ar_base.specs.Lists.{Stands}
use Rattle.ar_base.specs.NumbersInside.{EventId}
use Rattle.zdd_nodes.specs.Families.{Family}
use Rattle.zdd_nodes.specs.Sections.{lower}
use Rattle.zdd_nodes.specs.Nodes.{NodeId, Stored, family, IsFamilyNumber}
use Rattle.firable_families.specs.Walk.{occurs, some_occurs, taken, left, few_of, AreEventsBelow}
use Rattle.gate_diagrams.specs.declared.walked.State.{State}

-- whether two states have the same numbers, and as many events are left to take
abbrev pub same_state : State → State → Bool
same_state a b = pointwise (λ x y. eqb x.n y.n && true) a.left.items b.left.items
    && option_eq eqb a.order b.order

-- the state is held with this number
abbrev pub IsHeld : List (State × NodeId) → State → NodeId → Type 0
IsHeld entries state n = lookup (same_state state) entries ≡ Some n

-- a state of the walk has the number of what is left of each tree: these families
abbrev pub families_left : Stored → List NodeId → List Family
families_left trees state = map (λ (n : NodeId). family trees n.n) state

-- the numbers but for those of the family of the empty set alone
abbrev pub moving : List NodeId → List NodeId
moving state = filter (λ (n : NodeId). not (eqb n.n 1)) state

-- each is a number of the store
pub record AreNumbers (trees : Stored) (state : List NodeId) : Type 0 where
  pub each : (k : ℕ) (n : NodeId) → Stands state k n → IsFamilyNumber trees n.n

-- the numbers' sum
abbrev pub sum_of_numbers : List NodeId → ℕ
sum_of_numbers [] = 0
sum_of_numbers (n ∷ ns) = n.n + sum_of_numbers ns

-- what is left of a tree's sets where the event is taken, or where it is left out
abbrev pub half_of : Bool → ℕ → Family → Family
half_of true e f = taken e f
half_of false e f = lower e f

-- the number of such a half: it is less where the tree has the event
pub record IsHalfNumber (trees : Stored) (e : ℕ) (take : Bool) (old new : ℕ) : Type 0 where
  pub in_store : IsFamilyNumber trees new
  pub is : family trees new ≡ half_of take e (family trees old)
  pub no_greater : new ≤ old
  pub smaller : occurs e (family trees old) ≡ true → new < old

-- the halves of a whole state
pub record AreHalves (trees : Stored) (e : ℕ) (take : Bool) (old new : List NodeId) : Type 0 where
  pub in_store : AreNumbers trees new
  pub are : families_left trees new ≡ map (half_of take e) (families_left trees old)
  pub no_greater : sum_of_numbers new ≤ sum_of_numbers old
  pub smaller : some_occurs e (families_left trees old) ≡ true → sum_of_numbers new < sum_of_numbers old

-- the least event that one of the families has; None where none has one
abbrev pub IsLeastEvent : List Family → Option EventId → Type 0
IsLeastEvent fs None = (x : ℕ) → some_occurs x fs ≡ false
IsLeastEvent fs (Some e) = (some_occurs e.n fs ≡ true) × ((x : ℕ) → x < e.n → some_occurs x fs ≡ false)

-- n is the number of the family that the walk has left in this state, of the sets of at most as many events as are asked for
pub record IsWalked (trees made : Stored) (order : Option ℕ) (state : List NodeId) (n : ℕ) : Type 0 where
  pub in_store : IsFamilyNumber made n
  pub is : (below : ℕ) → AreEventsBelow below (families_left trees state)
      → family made n ≡ few_of order (left below 0 (families_left trees state))

-- each state that is held has the number of its family
abbrev pub AreWalked : Stored → Stored → List (State × NodeId) → Type 0
AreWalked trees made entries = (k : State) (n : NodeId) → IsHeld entries k n
    → IsWalked trees made k.order k.left.items n.n
