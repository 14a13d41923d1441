-- Sets of values as ascending lists.
use Rattle.std.specs.Prelude.{◌≡◌, ℕ, ◌<◌, ◌≤◌, List, length, Contains, Option, Some, None, Result, Ok, Err, ◌⊎◌, true}
use Rattle.std.specs.List.{AllWithin}
use Rattle.domains.specs.Values.{is_before, IsAscending}
use Rattle.domains.specs.declared.Value.{Value}
use Rattle.typed_expr.specs.declared.value_set.Stop.{Stop}
use Rattle.typed_expr.specs.declared.value_set.Stop.TheVariants.{TooMany, NoMemory}
use Rattle.typed_expr.specs.Sizes.{HasMoreThan}

-- what a set of values is seen as
abbrev pub Values : Type 0
Values = List Value

-- the set has exactly the values of which P holds
pub record HasExactly (set : List Value) (P : Value → Type 0) : Type 0 where
  pub sound : (v : Value) → Contains set v → P v
  pub complete : (v : Value) → P v → Contains set v

-- a fact about the limit, where there is one
abbrev pub AtLimit : Option ℕ → (ℕ → Type 0) → Type 0
AtLimit None P = ⊥
AtLimit (Some most) P = P most

-- the set keeps the limit, where there is one
abbrev pub KeepsLimit : Option ℕ → List Value → Type 0
KeepsLimit None set = Unit {0}
KeepsLimit (Some most) set = length set ≤ most

-- where there is too much of something, so there is
abbrev pub Stopped : Option ℕ → (ℕ → Type 0) → Stop → Type 0
Stopped most P TooMany = AtLimit most P
Stopped most P (NoMemory memory) = Unit {0}

-- a set of exactly the values of which P holds, within the limit; or P holds of more values than the limit
abbrev pub Gathers : Option ℕ → Result (List Value) Stop → (Value → Type 0) → Type 0
Gathers most (Ok set) P = HasExactly set P × KeepsLimit most set
Gathers most (Err stop) P = Stopped most (λ n. HasMoreThan n P) stop

-- the set with one more value
pub record AddsValue (old : List Value) (v : Value) (new : List Value) : Type 0 where
  pub kept : (d : Value) → Contains old d → Contains new d
  pub added : Contains new v
  pub only : (d : Value) → Contains new d → Contains old d ⊎ (d ≡ v)

-- with the value put in, the set keeps the limit that it kept before
abbrev pub Inserts : Option ℕ → List Value → Value → List Value → Type 0
Inserts most old v new = AddsValue old v new × (KeepsLimit most old → KeepsLimit most new)

-- with the value put in, the set would pass the limit
abbrev pub RefusesValue : Option ℕ → List Value → Value → Stop → Type 0
RefusesValue most old v TooMany =
    AtLimit most (λ n. (new : List Value) × AddsValue old v new × IsAscending new × (n < length new))
RefusesValue most old v (NoMemory memory) = Unit {0}

-- the values before the place come before the value, and those from the place on come after it
pub record GoesAt (values : List Value) (v : Value) (place : ℕ) : Type 0 where
  pub within : place ≤ length values
  pub lower : AllWithin (λ x. is_before x v ≡ true) values 0 place
  pub upper : AllWithin (λ x. is_before v x ≡ true) values place (length values)
