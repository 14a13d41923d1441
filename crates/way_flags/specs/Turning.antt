-- Flags that are turned.
use Rattle.std.specs.Prelude.{◌≡◌, ℕ, ◌<◌, Bool, not, List, [], ◌∷◌, length, slice_set}
use Rattle.ar_base.specs.Lists.{Stands, IsOneOf}
use Rattle.ar_base.specs.Numbers.{WayId}
use Rattle.gts_core.specs.declared.system.GtsParts.{GtsParts}
use Rattle.way_flags.specs.Parts.{flag_at}

-- the flags with those of these ways turned round, one after the other
abbrev pub flags_turned : List Bool → List WayId → List Bool
flags_turned flags [] = flags
flags_turned flags (way ∷ more) = flags_turned (slice_set flags way.n (not (flag_at flags way.n))) more

-- ways of the system, each once
pub record AreWaysOfSystem (p : GtsParts) (ways : List WayId) : Type 0 where
  pub inside : (id : WayId) → IsOneOf ways id → id.n < length p.ways.items
  pub once : (j k : ℕ) (a b : WayId) → Stands ways j a → Stands ways k b → a.n ≡ b.n → j ≡ k
