-- Sets of numbers as lists, and their order.
use Rattle.std.specs.Prelude.{◌↔◌, ◌<◌, ℕ, List}
use Rattle.ar_base.specs.Lists.{Stands, IsOneOf}

-- each number is greater than those before it
pub record Ascends (set : List ℕ) : Type 0 where
  pub ascends : (j k a b : ℕ) → j < k → Stands set j a → Stands set k b → a < b

-- each member of the first set is one of the second
pub record Within (s t : List ℕ) : Type 0 where
  pub each : (e : ℕ) → IsOneOf s e → IsOneOf t e

-- the least number that is in just one of the two sets is in the first
pub record IsBefore (s t : List ℕ) : Type 0 where
  pub least : ℕ
  pub in_first : IsOneOf s least
  pub not_in_second : IsOneOf t least → ⊥
  pub same_below : (e : ℕ) → e < least → (IsOneOf s e ↔ IsOneOf t e)
