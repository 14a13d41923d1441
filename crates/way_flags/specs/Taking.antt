-- Which ways take part where one is fired.
use Rattle.std.specs.Prelude.{◌≡◌, ℕ, Bool, true, ◌||◌, List}
use Rattle.ar_base.specs.Lists.{Stands}
use Rattle.ar_base.specs.Numbers.{WayId}
use Rattle.gts_core.specs.declared.system.GtsParts.{GtsParts}
use Rattle.way_flags.specs.Parts.{flag_at}
use Rattle.way_flags.specs.Ways.{WayHasPart}

-- whether a part takes part where its way is fired: it is marked !, or its flag is set
abbrev pub takes_part : List Bool → Bool × WayId → Bool
takes_part flags part = part.0 || flag_at flags part.1.n

-- the ways that take part where the way `top` is fired: itself, and of each of them the parts that take part
pub data TakesPart (p : GtsParts) (flags : List Bool) (top : ℕ) : ℕ → Type 0 where
  itself : TakesPart p flags top top
  part : {n m : ℕ} (part : Bool × WayId) → TakesPart p flags top n → WayHasPart p n part → takes_part flags part ≡ true
      → part.1.n ≡ m → TakesPart p flags top m

-- one of these ways has the number
pub record HasWayNumber (ways : List WayId) (n : ℕ) : Type 0 where
  pub place : ℕ
  pub way : WayId
  pub stands : Stands ways place way
  pub number : way.n ≡ n

-- no number stands twice
pub record AreDifferentIds (ways : List WayId) : Type 0 where
  pub once : (j k : ℕ) (a b : WayId) → Stands ways j a → Stands ways k b → a.n ≡ b.n → j ≡ k

-- these are the ways that take part, each once
pub record AreTakers (p : GtsParts) (flags : List Bool) (top : ℕ) (ways : List WayId) : Type 0 where
  pub sound : (n : ℕ) → HasWayNumber ways n → TakesPart p flags top n
  pub complete : (n : ℕ) → TakesPart p flags top n → HasWayNumber ways n
  pub once : AreDifferentIds ways
