-- How the flags follow a change of the values.
use Rattle.std.specs.Prelude.{◌≡◌, ◌⊎◌, ℕ, ◌<◌, Bool, List, length, IsTrue}
use Rattle.std.specs.BTreeSet.{BTreeSet, contains}
use Rattle.std.specs.Ordering.{nat_cmp}
use Rattle.ar_base.specs.Lists.{Stands, IsOneOf}
use Rattle.ar_base.specs.Numbers.{VarId, WayId}
use Rattle.domains.specs.declared.Value.{Value}
use Rattle.gts_core.specs.Readings.{IsTotal, valuation_at}
use Rattle.gts_core.specs.declared.system.Way.{Way}
use Rattle.gts_core.specs.declared.system.GtsParts.{GtsParts}
use Rattle.way_flags.specs.Parts.{flag_at}
use Rattle.way_flags.specs.Ways.{can_by, AreFlags}
use Rattle.way_flags.specs.Turning.{flags_turned, AreWaysOfSystem}

-- the flags are those of a total valuation that differs from this one in none but these variables
pub record WereFlags (p : GtsParts) (t : List Value) (changed : List VarId) (flags : List Bool) : Type 0 where
  pub before : List Value
  pub total : IsTotal p before
  pub were : AreFlags p before flags
  pub same : (n : ℕ) → ((x : VarId) → IsOneOf changed x → x.n ≡ n → ⊥) → valuation_at before n ≡ valuation_at t n

-- the way at this place waits to be looked at
abbrev pub WaitsAt : BTreeSet ℕ → ℕ → Type 0
WaitsAt waiting place = IsTrue (contains nat_cmp waiting place)

-- this is the place of a number that has P
pub record IsPlaceWith (places : List ℕ) (P : ℕ → Type 0) (place : ℕ) : Type 0 where
  pub n : ℕ
  pub has : P n
  pub stands : Stands places n place

-- way n waits at its place
abbrev pub WayWaits : List ℕ → BTreeSet ℕ → ℕ → Type 0
WayWaits places waiting n = (place : ℕ) × Stands places n place × WaitsAt waiting place

-- places of ways alone wait; each way waits, or its flag says what its guard or the flags of its parts say
pub record AreFlagsSettled (p : GtsParts) (places : List ℕ) (t : List Value) (waiting : BTreeSet ℕ)
    (flags : List Bool) : Type 0 where
  pub long : length flags ≡ length p.ways.items
  pub within : (place : ℕ) → WaitsAt waiting place → (n : ℕ) × Stands places n place
  pub right : (n : ℕ) (way : Way) → Stands p.ways.items n way
      → WayWaits places waiting n ⊎ (flag_at flags n ≡ can_by t flags way.body)

-- the same but for the way that was taken from this place, where none before it waits
pub record IsSettledBut (p : GtsParts) (places : List ℕ) (t : List Value) (done : ℕ) (waiting : BTreeSet ℕ)
    (flags : List Bool) : Type 0 where
  pub long : length flags ≡ length p.ways.items
  pub here : (n : ℕ) × Stands places n done
  pub within : (place : ℕ) → WaitsAt waiting place → (n : ℕ) × Stands places n place
  pub later : (place : ℕ) → WaitsAt waiting place → done < place
  pub right : (n : ℕ) (way : Way) → Stands p.ways.items n way
      → Stands places n done ⊎ (WayWaits places waiting n ⊎ (flag_at flags n ≡ can_by t flags way.body))

-- ways that were looked at, each once: their places come before this one
pub record AreBehind (p : GtsParts) (places : List ℕ) (place : ℕ) (ways : List WayId) : Type 0 where
  pub are : AreWaysOfSystem p ways
  pub before : (id : WayId) (q : ℕ) → IsOneOf ways id → Stands places id.n q → q < place

-- ways that were looked at, each once: their places come before those that wait
pub record AreLooked (p : GtsParts) (places : List ℕ) (waiting : BTreeSet ℕ) (ways : List WayId) : Type 0 where
  pub are : AreWaysOfSystem p ways
  pub before : (id : WayId) (q next : ℕ) → IsOneOf ways id → Stands places id.n q → WaitsAt waiting next → q < next

-- the flags were turned from the first ones
abbrev pub AreTurned : List Bool → List Bool → List WayId → Type 0
AreTurned first flags ways = first ≡ flags_turned flags ways
