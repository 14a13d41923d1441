-- The unfolding of the main block: its units within the limits, or the first limit that they pass.
use Rattle.std.specs.Prelude.{◌≡◌, ℕ, ◌+◌, ◌≤◌, List, [], ◌∷◌, ◌++◌, length, Result, Ok, Err}
use Rattle.ar_base.specs.Counts.{limit_of}
use Rattle.ar_base.specs.Lists.{IsOneOf}
use Rattle.ar_base.specs.declared.counts.Count.{Count}
use Rattle.ar_base.specs.declared.counts.Count.TheVariants.{Depth, Units}
use Rattle.ar_base.specs.declared.faults.RuleFault.{RuleFault}
use Rattle.ar_base.specs.declared.faults.RuleFault.TheVariants.{Limit}
use Rattle.hierarchy.specs.Models.{RootedModel}
use Rattle.hierarchy.specs.Units.{UnitPath}
use Rattle.hierarchy.specs.Listing.{Unfolded, AreUnits, AreFirstUnits}

-- the main block itself is at depth 1
abbrev pub depth : UnitPath → ℕ
depth u = length u + 1

-- none of these units is too deep
pub record AreShallow (units : List UnitPath) : Type 0 where
  pub each : (u : UnitPath) → IsOneOf units u → depth u ≤ limit_of Depth

-- the last of these units is the first that is too deep or one too many; where it is both, it is too deep
pub data IsFirstOver : Count → List UnitPath → Type 0 where
  deep : (front : List UnitPath) (u : UnitPath) → AreShallow front → length front ≤ limit_of Units
      → depth u ≡ limit_of Depth + 1
      → IsFirstOver Depth (front ++ u ∷ [])
  many : {units : List UnitPath} → AreShallow units → length units ≡ limit_of Units + 1 → IsFirstOver Units units

-- all units, or the limit that the first units pass
pub data Unfolds (m : RootedModel) : Result Unfolded RuleFault → Type 0 where
  whole : {units : List UnitPath} → AreUnits m units → AreShallow units → length units ≤ limit_of Units
      → Unfolds m (Ok (record { model = m; units = units }))
  over : {units : List UnitPath} {count : Count} → AreFirstUnits m units → IsFirstOver count units
      → Unfolds m (Err (Limit count))
