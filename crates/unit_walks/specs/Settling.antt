-- What each name leads to in each unit, by the numbers of the units.
use Rattle.std.specs.Prelude.{◌≡◌, ◌<◌, ◌⊎◌, ℕ, List, ◌∷◌, length, Option, Some, None, unwrap_or}
use Rattle.std.specs.HashMap.{get, HashMap}
use Rattle.ar_base.specs.Lists.{Stands}
use Rattle.ar_base.specs.NumbersInside.{UnitId}
use Rattle.class_table.specs.Members.{NamedMember}
use Rattle.hierarchy.specs.Models.{RootedModel}
use Rattle.hierarchy.specs.Units.{UnitPath, UnitLevel, names_at}
use Rattle.hierarchy.specs.Walks.{Reaches, Nothing, Loops}
use Rattle.hierarchy.specs.WalksInside.{LeadsFrom}
use Rattle.unit_walks.specs.Forms.{same_pair, only_units}
use Rattle.unit_walks.specs.Walking.{IsRun}
use Rattle.unit_walks.specs.declared.tables.Table.{Table}
use Rattle.unit_walks.specs.declared.settling.Walks.{Walks}
use Rattle.unit_walks.specs.declared.settling.Led.{Led}
use Rattle.unit_walks.specs.declared.settling.Led.TheVariants as led

-- the name x in the unit u leads to this
abbrev pub IsLed : RootedModel → List UnitPath → UnitPath → ℕ → Led → Type 0
IsLed m units u x (led.Unit id) = (v : UnitPath) × Stands units id.n v × LeadsFrom m u x (Reaches v)
IsLed m units u x led.Nothing = LeadsFrom m u x Nothing
IsLed m units u x led.Loops = LeadsFrom m u x Loops

-- the same, where what was known stays known
pub record IsLedBy (m : RootedModel) (units : List UnitPath) (old new : Table) (u : UnitPath) (x : ℕ) (r : Led) : Type
    0 where
  pub run : IsRun m old new
  pub is_led : IsLed m units u x r

-- what is kept for the name x in the unit of number n
abbrev pub kept_walk_at : Walks → ℕ → ℕ → Option Led
kept_walk_at w n x = get same_pair w.led (n, x)

-- what is answered for it
abbrev pub led_at : Walks → ℕ → ℕ → Led
led_at w n x = unwrap_or (kept_walk_at w n x) led.Nothing

-- each name in each unit leads to what is answered
pub record AreOutcomes (m : RootedModel) (units : List UnitPath) (w : Walks) : Type 0 where
  pub each : (n x : ℕ) (u : UnitPath) → Stands units n u → IsLed m units u x (led_at w n x)

-- one answer is kept
pub record KeepsAnswer (old new : Walks) (n x : ℕ) (r : Led) : Type 0 where
  pub here : kept_walk_at new n x ≡ Some r
  pub other : (k y : ℕ) → ((k ≡ n) × (y ≡ x) → ⊥) → kept_walk_at new k y ≡ kept_walk_at old k y

-- the first i of these units, but for the main block, are found by the number of the unit above and by their name
pub record AreChildrenTo {S : Type 0} (units : List UnitPath) (i : ℕ) (children : HashMap (ℕ × ℕ) UnitId S) : Type
    0 where
  pub right : (a x : ℕ) (id : UnitId) → get same_pair children (a, x) ≡ Some id
      → (l : UnitLevel) × (above : UnitPath) × Stands units a above × Stands units id.n (l ∷ above) × (l.name ≡ x)
  pub all : (a n : ℕ) (l : UnitLevel) (above : UnitPath) → n < i → Stands units a above → Stands units n (l ∷ above)
      → (id : UnitId) × (get same_pair children (a, l.name) ≡ Some id)

-- all of them are
abbrev pub AreNumberedChildren : {S : Type 0} → List UnitPath → HashMap (ℕ × ℕ) UnitId S → Type 0
AreNumberedChildren units children = AreChildrenTo units (length units) children

-- the number is there, and is the unit's
abbrev pub IsUnitNumber : List UnitPath → UnitPath → Option UnitId → Type 0
IsUnitNumber units v None = ⊥
IsUnitNumber units v (Some id) = Stands units id.n v

-- for the first i names of the unit of number n, and for each name of a unit before it, an answer is kept, and each
-- that is kept is right
pub record IsSettledTo (m : RootedModel) (units : List UnitPath) (n i : ℕ) (w : Walks) : Type 0 where
  pub right : (k x : ℕ) (r : Led) (u : UnitPath) → kept_walk_at w k x ≡ Some r → Stands units k u → IsLed m units u x r
  pub all : (k j : ℕ) (u : UnitPath) (g : NamedMember) → Stands units k u → Stands (only_units (names_at m u)) j g
      → (k < n) ⊎ ((k ≡ n) × (j < i))
      → (r : Led) × (kept_walk_at w k g.name ≡ Some r)

-- the same, where what was known stays known
pub record SettlesUnit (m : RootedModel) (units : List UnitPath) (n : ℕ) (old new : Table) (w : Walks) : Type 0 where
  pub run : IsRun m old new
  pub settled : IsSettledTo m units n 0 w
