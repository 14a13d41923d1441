-- Events that are counted one after the other, each after its parts.
use Rattle.std.specs.Prelude.{◌≡◌, ℕ, ◌<◌, ◌≤◌, Bool, List, Vec, length, slice_index}
use Rattle.std.specs.Global.{Global}
use Rattle.std.specs.List.Sorted.{IsNonDecreasingBy}
use Rattle.ar_base.specs.Lists.{Stands, IsOneOf}
use Rattle.ar_base.specs.NumbersInside.{EventId}
use Rattle.ar_base.specs.declared.places.Place.{Place}
use Rattle.gts_core.specs.declared.bound.DeclaredWay.{DeclaredWay}
use Rattle.gts_core.specs.declared.bound.DeclaredWay.TheVariants.{Sync}

-- all numbers below the count, those of lesser ranks first
pub record IsByRank (count : ℕ) (ranks order : List ℕ) : Type 0 where
  pub all : (n : ℕ) → n < count → IsOneOf order n
  pub below : (n : ℕ) → IsOneOf order n → n < count
  pub rises : IsNonDecreasingBy (λ (n : ℕ). slice_index ranks n) order

-- the number that was found for the event is that of its ways, and within the limit
pub record IsTallied (counts found : List ℕ) (event : ℕ) : Type 0 where
  pub right : slice_index found event ≡ slice_index counts event
  pub small : slice_index counts event ≤ 256

-- the numbers that were found for the parts of these ways are those of the parts' ways
pub record ArePartsCounted (counts found : List ℕ) (ways : List DeclaredWay) : Type 0 where
  pub each : (parts : Vec (Bool × EventId) Global) (at : Place) (part : Bool × EventId) → IsOneOf ways (Sync parts at)
      → IsOneOf parts.items part → slice_index found part.1.n ≡ slice_index counts part.1.n

-- the event was counted, and others stay counted
pub record CountsOne (counts : List ℕ) (event : ℕ) (old new : List ℕ) : Type 0 where
  pub here : IsTallied counts new event
  pub kept : (e : ℕ) → IsTallied counts old e → IsTallied counts new e

-- the first events of the order are counted
pub record AreFirstCounted (counts order : List ℕ) (i : ℕ) (found : List ℕ) : Type 0 where
  pub done : (j e : ℕ) → j < i → Stands order j e → IsTallied counts found e
