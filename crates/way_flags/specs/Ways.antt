-- Ways in order, and which of them can fire.
use Rattle.std.specs.Prelude.{◌≡◌, ℕ, ◌<◌, Bool, true, if◌then◌else◌, List, [], length}
use Rattle.ar_base.specs.Lists.{Stands, IsOneOf}
use Rattle.domains.specs.declared.Value.{Value}
use Rattle.ar_meaning.specs.Systems as s
use Rattle.ar_meaning.specs.Facts.{HasValue}
use Rattle.ar_meaning.specs.Found.{IsAnswer}
use Rattle.ar_meaning.specs.Ways.{Can}
use Rattle.ar_base.specs.Numbers.{WayId}
use Rattle.gts_core.specs.View.{net_of, IsWayAt}
use Rattle.gts_core.specs.declared.system.Way.{Way}
use Rattle.gts_core.specs.declared.system.WayBody.{WayBody}
use Rattle.gts_core.specs.declared.system.WayBody.TheVariants.{Local, Sync}
use Rattle.gts_core.specs.declared.system.GtsParts.{GtsParts}
use Rattle.gts_core.specs.Readings.{is_met}
use Rattle.way_flags.specs.Parts.{are_set, flag_at, has_must_in, musts_by, some_by}

-- the parts of a way, with their marks; a local way has none
abbrev pub parts_of : WayBody → List (Bool × WayId)
parts_of (Local guard action) = []
parts_of (Sync parts) = parts.items

-- this is one of the parts of the way of this number
pub record WayHasPart (p : GtsParts) (n : ℕ) (part : Bool × WayId) : Type 0 where
  pub way : Way
  pub stands : Stands p.ways.items n way
  pub is_part : IsOneOf (parts_of way.body) part

-- the ways of the system, all of them, each once and after its parts
pub record IsWayOrder (p : GtsParts) (order : List WayId) : Type 0 where
  pub inside : (k : ℕ) (id : WayId) → Stands order k id → id.n < length p.ways.items
  pub once : (j k : ℕ) (id other : WayId) → Stands order j id → Stands order k other → id.n ≡ other.n → j ≡ k
  pub all : (n : ℕ) → n < length p.ways.items → (k : ℕ) × (id : WayId) × Stands order k id × (id.n ≡ n)
  pub after : (j k : ℕ) (id other : WayId) (part : Bool × WayId) → Stands order k id → WayHasPart p id.n part
      → Stands order j other → other.n ≡ part.1.n → j < k

-- the first ways of such an order, and for each way whether it is among them
pub record IsPlacing (p : GtsParts) (order : List WayId) (placed : List Bool) : Type 0 where
  pub long : length placed ≡ length p.ways.items
  pub inside : (k : ℕ) (id : WayId) → Stands order k id → (id.n < length p.ways.items) × (flag_at placed id.n ≡ true)
  pub once : (j k : ℕ) (id other : WayId) → Stands order j id → Stands order k other → id.n ≡ other.n → j ≡ k
  pub all : (n : ℕ) → flag_at placed n ≡ true → (k : ℕ) × (id : WayId) × Stands order k id × (id.n ≡ n)
  pub after : (j k : ℕ) (id other : WayId) (part : Bool × WayId) → Stands order k id → WayHasPart p id.n part
      → Stands order j other → other.n ≡ part.1.n → j < k
  pub ready : (k : ℕ) (id : WayId) (part : Bool × WayId) → Stands order k id → WayHasPart p id.n part
      → flag_at placed part.1.n ≡ true

-- whether a way can fire, by the flags of its parts
abbrev pub can_by : List Value → List Bool → WayBody → Bool
can_by t flags (Local guard action) = is_met t (guard, true)
can_by t flags (Sync parts) = if has_must_in parts.items then musts_by flags parts.items else some_by flags parts.items

-- the flag of each way says whether it can fire
pub record AreFlags (p : GtsParts) (t : List Value) (flags : List Bool) : Type 0 where
  pub long : length flags ≡ length p.ways.items
  pub flag : (n : ℕ) (w : s.Way ℕ) → IsWayAt p n w → IsAnswer (flag_at flags n) (Can (HasValue (net_of p) t) w)

-- whether all parts of a way are placed
abbrev pub are_placed : List Bool → WayBody → Bool
are_placed placed (Local guard action) = true
are_placed placed (Sync parts) = are_set placed parts.items

-- what was set stays set
pub record KeepsMarks (old new : List Bool) : Type 0 where
  pub keeps : (n : ℕ) → flag_at old n ≡ true → flag_at new n ≡ true

-- the first so many of these parts are placed
pub record ArePartsPlaced (placed : List Bool) (parts : List (Bool × WayId)) (count : ℕ) : Type 0 where
  pub each : (k : ℕ) → k < count → (q : Bool × WayId) → Stands parts k q → flag_at placed q.1.n ≡ true
