-- The earliest of the places that have a property.
use Rattle.std.specs.Prelude.{◌≡◌, ℕ, ◌<◌, Option, Some, None}
use Rattle.ar_base.specs.Breach.{IsEarlier}
use Rattle.ar_base.specs.declared.places.Place.{Place}

-- no place has P, or this one has it and none before it
pub data IsEarliest (P : Place → Type 0) : Option Place → Type 0 where
  nowhere : ((p : Place) → P p → ⊥) → IsEarliest P None
  there : {p : Place} → P p → ((q : Place) → IsEarlier q p → P q → ⊥) → IsEarliest P (Some p)

-- the last is the earlier one of the first two, as far as there are any
pub data IsEarlierOf : Option Place → Option Place → Option Place → Type 0 where
  no_first : {g : Option Place} → IsEarlierOf None g g
  no_second : {p : Place} → IsEarlierOf (Some p) None (Some p)
  first : {p q : Place} → (IsEarlier q p → ⊥) → IsEarlierOf (Some p) (Some q) (Some p)
  second : {p q : Place} → IsEarlier q p → IsEarlierOf (Some p) (Some q) (Some q)

-- some number below n has P at the place
pub record Until (P : ℕ → Place → Type 0) (n : ℕ) (p : Place) : Type 0 where
  pub k : ℕ
  pub below : k < n
  pub holds : P k p

-- a place was found, and this one is not before it
pub data IsNotBefore (at : Place) : Option Place → Type 0 where
  behind : {p : Place} → (IsEarlier at p → ⊥) → IsNotBefore at (Some p)

-- where P was tested beside the place found: that stays, and no place that has P is before it, or an earlier one has P, and
-- none before that
pub data FindsBeside (P : Place → Type 0) (found : Option Place) : Option Place → Type 0 where
  kept : ((p : Place) → P p → IsNotBefore p found) → FindsBeside P found found
  new : {p : Place} → ((q : Place) → found ≡ Some q → IsEarlier p q) → P p → ((q : Place) → IsEarlier q p → P q → ⊥)
      → FindsBeside P found (Some p)
