-- How the ways that take part are met.
use Rattle.std.specs.Prelude.{◌≡◌, ℕ, ◌⊎◌, Bool, true, List, IsTrue}
use Rattle.std.specs.BTreeSet.{BTreeSet, contains}
use Rattle.std.specs.Ordering.{nat_cmp}
use Rattle.ar_base.specs.Lists.{Stands, IsOneOf}
use Rattle.ar_base.specs.Numbers.{WayId}
use Rattle.gts_core.specs.declared.system.WayBody.{WayBody}
use Rattle.way_flags.specs.Ways.{parts_of}
use Rattle.way_flags.specs.Taking.{AreDifferentIds, HasWayNumber, takes_part}
use Rattle.way_flags.specs.declared.takers.Met.{Met}

-- the number is in the set
abbrev pub IsIn : BTreeSet ℕ → ℕ → Type 0
IsIn numbers n = IsTrue (contains nat_cmp numbers n)

-- the set has the numbers of the ways, each of which was met once
pub record AreMet (met : Met) : Type 0 where
  pub listed : (n : ℕ) → IsIn met.numbers n → HasWayNumber met.ways.items n
  pub numbered : (n : ℕ) → HasWayNumber met.ways.items n → IsIn met.numbers n
  pub once : AreDifferentIds met.ways.items

-- the ways stay where they are, and those with these numbers are met besides
pub record MeetsWays (P : ℕ → Type 0) (old new : Met) : Type 0 where
  pub are : AreMet new
  pub keeps : (k : ℕ) (id : WayId) → Stands old.ways.items k id → Stands new.ways.items k id
  pub only : (n : ℕ) → HasWayNumber new.ways.items n → HasWayNumber old.ways.items n ⊎ P n
  pub there : (n : ℕ) → P n → HasWayNumber new.ways.items n

-- one of these parts takes part and has the number
pub record HasTakenPart (parts : List (Bool × WayId)) (flags : List Bool) (n : ℕ) : Type 0 where
  pub part : Bool × WayId
  pub is_part : IsOneOf parts part
  pub takes : takes_part flags part ≡ true
  pub number : part.1.n ≡ n

-- the parts of a way that take part are met besides
abbrev pub MeetsParts : List Bool → WayBody → Met → Met → Type 0
MeetsParts flags body old new = MeetsWays (HasTakenPart (parts_of body) flags) old new

-- this way alone is met
pub record IsMetAlone (way : WayId) (met : Met) : Type 0 where
  pub are : AreMet met
  pub there : HasWayNumber met.ways.items way.n
  pub only : (n : ℕ) → HasWayNumber met.ways.items n → n ≡ way.n
