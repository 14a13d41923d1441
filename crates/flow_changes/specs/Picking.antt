-- Items that are picked out of lists by their numbers, and written back.
use Rattle.std.specs.Prelude.{◌≡◌, ◌<◌, ℕ, List, length, slice_get}
use Rattle.ar_base.specs.Lists.{Stands, IsOneOf}

-- the lists have the same items, save at these numbers
pub record KeepsOthers {A : Type 0} (numbers : List ℕ) (old new : List A) : Type 0 where
  pub long : length new ≡ length old
  pub others : (n : ℕ) → (IsOneOf numbers n → ⊥) → slice_get new n ≡ slice_get old n

-- the items at these numbers, in their order
pub record ArePicked {A : Type 0} (numbers : List ℕ) (all picked : List A) : Type 0 where
  pub long : length picked ≡ length numbers
  pub each : (k n : ℕ) (a : A) → Stands numbers k n → Stands all n a → Stands picked k a

-- this item was written at these numbers
pub record AreSet {A : Type 0} (a : A) (numbers : List ℕ) (old new : List A) : Type 0 where
  pub keeps : KeepsOthers numbers old new
  pub each : (n : ℕ) → IsOneOf numbers n → Stands new n a

-- each of these numbers is below the length
abbrev pub AreWithin : {A : Type 0} → List ℕ → List A → Type 0
AreWithin numbers all = (n : ℕ) → IsOneOf numbers n → n < length all
