-- The events of units.
use Rattle.std.specs.Prelude.{◌≡◌, ◌↔◌, ℕ, suc, true, List, ◌++◌, length}
use Rattle.ar_base.specs.Lists.{Stands}
use Rattle.hierarchy.specs.Models.{RootedModel}
use Rattle.hierarchy.specs.Units.{UnitLevel, UnitPath, Thing}
use Rattle.hierarchy.specs.Listing.{events}
use Rattle.gate_modules.specs.Modules.{lies}
use Rattle.gate_modules.specs.declared.ranges.Range.{Range}

-- event number e is one of unit number k or of a unit within it
pub record HasEvent (m : RootedModel) (units : List UnitPath) (k e : ℕ) : Type 0 where
  pub unit : UnitPath
  pub is_unit : Stands units k unit
  pub event : Thing
  pub is_event : Stands (events m units) e event
  pub within : List UnitLevel
  pub is_within : event.unit ≡ within ++ unit

-- the range is that of unit number k, with exactly its events and those of the units within it
pub record IsRangeOf (m : RootedModel) (units : List UnitPath) (k : ℕ) (r : Range) : Type 0 where
  pub unit : r.unit.n ≡ k
  pub events : (e : ℕ) → (lies r e ≡ true) ↔ HasEvent m units k e

-- the ranges are those of the units but the main block, which is the first of them
pub record AreRangesOf (m : RootedModel) (units : List UnitPath) (ranges : List Range) : Type 0 where
  pub long : suc (length ranges) ≡ length units
  pub each : (k : ℕ) (r : Range) → Stands ranges k r → IsRangeOf m units (suc k) r
