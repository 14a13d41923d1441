-- What the table of walks says.
use Rattle.std.specs.Prelude.{◌≡◌, ◌<◌, ◌+◌, ◌++◌, ◌⊎◌, ◌&&◌, ℕ, nat_eq, Bool, List, [], ◌∷◌, Option, Some, None, slice_get, length, option_map}
use Rattle.std.specs.HashMap.{get}
use Rattle.ar_base.specs.Lists.{Stands}
use Rattle.ar_syntax.specs.declared.paths.Path.{Path}
use Rattle.class_table.specs.TablesInside.{site_of}
use Rattle.hierarchy.specs.Models.{RootedModel}
use Rattle.hierarchy.specs.Units.{UnitPath, UnitLevel, body_of, set_at_of, kind_at, numbers}
use Rattle.hierarchy.specs.Tie.{IsNameOfUnit, IsSetAt}
use Rattle.unit_walks.specs.Ends.{NameEnds, NamesEnd, NeverEnds, IsStatement}
use Rattle.unit_walks.specs.Forms.{same_pair, member_kind_in}
use Rattle.unit_walks.specs.declared.tables.Table.{Table}
use Rattle.unit_walks.specs.declared.tables.Met.{Met}
use Rattle.unit_walks.specs.declared.tables.Frame.{Frame}
use Rattle.unit_walks.specs.declared.tables.Reach.{Reach}
use Rattle.unit_walks.specs.declared.tables.Known.{Known}
use Rattle.unit_walks.specs.declared.tables.Known.TheVariants.{Following, ToUnit, Nothing, Loops}

-- what is known of the name x in unit a
abbrev pub known_at : Table → ℕ → ℕ → Option Known
known_at t a x = get same_pair t.known (a, x)

abbrev pub same_triple : ℕ × ℕ × ℕ → ℕ × ℕ × ℕ → Bool
same_triple a b = (nat_eq a.0 b.0 && nat_eq a.1 b.1) && nat_eq a.2 b.2

-- how far it is kept that the path of the statement x of body b leads from unit a
abbrev pub end_at : Table → ℕ → ℕ → ℕ → Option Reach
end_at t b x a = get same_triple t.ends (b, x, a)

-- the level of a unit
abbrev pub unit_level : Met → UnitLevel
unit_level d = record { name = d.name.n; body = d.body.n; set_at = option_map site_of d.set_at }

-- The units of a table are a function of it: that of an entry is its level on the unit of its owner's number.

abbrev pub path_below : Option UnitPath → UnitLevel → UnitPath
path_below None l = []
path_below (Some u) l = l ∷ u

abbrev pub path_met : List UnitPath → Option ℕ → UnitLevel → UnitPath
path_met paths None l = []
path_met paths (Some n) l = path_below (slice_get paths n) l

abbrev pub paths_from : List UnitPath → List Met → List UnitPath
paths_from paths [] = paths
paths_from paths (d ∷ ds) = paths_from (paths ++ path_met paths d.owner (unit_level d) ∷ []) ds

-- the units of a table, by their numbers
abbrev pub table_paths : Table → List UnitPath
table_paths t = paths_from [] t.units.items

-- the number of the unit above
abbrev pub Above : List UnitPath → UnitPath → Option ℕ → Type 0
Above all [] o = o ≡ None
Above all (l ∷ above) o = (n : ℕ) × (o ≡ Some n) × Stands all n above

-- the number, if there is one, stands for the unit, if there is one
abbrev pub StandsIf : List UnitPath → Option ℕ → Option UnitPath → Type 0
StandsIf units None None = Prim.Unit {0}
StandsIf units None (Some u) = ⊥
StandsIf units (Some n) None = ⊥
StandsIf units (Some n) (Some u) = Stands units n u

-- a statement of these frames
abbrev pub HasFrame : List Frame → ℕ → ℕ → Type 0
HasFrame [] a x = ⊥
HasFrame (f ∷ fs) a x = ((f.unit ≡ a) × (f.name.n ≡ x)) ⊎ HasFrame fs a x

-- the name x in u ends in the unit of number k
pub record EndsAt (m : RootedModel) (paths : List UnitPath) (u : UnitPath) (x k : ℕ) : Type 0 where
  pub path : UnitPath
  pub stands : Stands paths k path
  pub height : ℕ
  pub ends : NameEnds m height u x (kind_at m u x) (Some path)

-- the name x in u ends in nothing
pub record EndsNowhere (m : RootedModel) (u : UnitPath) (x : ℕ) : Type 0 where
  pub height : ℕ
  pub ends : NameEnds m height u x (kind_at m u x) None

-- what an entry says of the name x in the unit u, which has number a
abbrev pub EntryMeans : RootedModel → List UnitPath → List Frame → ℕ → UnitPath → ℕ → Known → Type 0
EntryMeans m paths frames a u x (ToUnit k) = EndsAt m paths u x k
EntryMeans m paths frames a u x Nothing = EndsNowhere m u x
EntryMeans m paths frames a u x Loops = NeverEnds m u x
EntryMeans m paths frames a u x Following = HasFrame frames a x

-- the path of the statement x of body b leads so far from the unit of number a
pub record PathLeads (m : RootedModel) (paths : List UnitPath) (b x a : ℕ) (k : Reach) : Type 0 where
  pub path : Path
  pub is_clone : Bool
  pub is : IsStatement path is_clone (member_kind_in m b x)
  pub first : UnitPath
  pub last : UnitPath
  pub starts : Stands paths a first
  pub stands : Stands paths k.unit last
  pub before : List ℕ
  pub rest : List ℕ
  pub names : numbers path.names.items ≡ before ++ rest
  pub to_go : length rest ≡ k.rest
  pub height : ℕ
  pub ends : NamesEnd m height (Some first) before (Some last)

-- the entry is that of the unit
pub record IsUnitMet (m : RootedModel) (paths : List UnitPath) (u : UnitPath) (d : Met) : Type 0 where
  pub name : IsNameOfUnit u d.name
  pub body : body_of m u ≡ d.body.n
  pub set_at : IsSetAt (set_at_of u) d.set_at
  pub owner : Above paths u d.owner

-- the table is right, while the statements of these frames are being followed
pub record IsWalkTable (m : RootedModel) (frames : List Frame) (t : Table) : Type 0 where
  pub main : Stands (table_paths t) 0 []
  pub units : (n : ℕ) (d : Met) (u : UnitPath) → Stands t.units.items n d → Stands (table_paths t) n u
      → IsUnitMet m (table_paths t) u d
  pub known : (a x : ℕ) (c : Known) (u : UnitPath) → Stands (table_paths t) a u → known_at t a x ≡ Some c
      → EntryMeans m (table_paths t) frames a u x c
  pub within : (a x : ℕ) (c : Known) → known_at t a x ≡ Some c → a < length t.units.items
  pub ends : (b x a : ℕ) (k : Reach) → end_at t b x a ≡ Some k → PathLeads m (table_paths t) b x a k

-- one entry is set, and k are new
pub record IsEntrySet (old new : Table) (a x : ℕ) (c : Known) (k : ℕ) : Type 0 where
  pub units : new.units.items ≡ old.units.items
  pub count : new.count ≡ old.count + k
  pub here : known_at new a x ≡ Some c
  pub other : (b y : ℕ) → ((b ≡ a) × (y ≡ x) → ⊥) → known_at new b y ≡ known_at old b y
  pub ends : new.ends ≡ old.ends

-- one entry is taken away
pub record IsForgotten (old new : Table) (a x : ℕ) : Type 0 where
  pub units : new.units.items ≡ old.units.items
  pub here : known_at new a x ≡ None
  pub other : (b y : ℕ) → ((b ≡ a) × (y ≡ x) → ⊥) → known_at new b y ≡ known_at old b y
  pub ends : new.ends ≡ old.ends

-- a unit is added, with this number
pub record IsGrown (old new : Table) (d : Met) (n : ℕ) : Type 0 where
  pub units : new.units.items ≡ old.units.items ++ d ∷ []
  pub at : n ≡ length old.units.items
  pub known : (a x : ℕ) → known_at new a x ≡ known_at old a x
  pub count : new.count ≡ old.count
  pub ends : new.ends ≡ old.ends

-- that the path of the statement x of body b leads so far from unit a is kept
pub record KeepsEnd (old new : Table) (b x a : ℕ) (k : Reach) : Type 0 where
  pub units : new.units.items ≡ old.units.items
  pub known : (c y : ℕ) → known_at new c y ≡ known_at old c y
  pub count : new.count ≡ old.count
  pub here : end_at new b x a ≡ Some k
  pub other : (c y n : ℕ) → ((c ≡ b) × (y ≡ x) × (n ≡ a) → ⊥) → end_at new c y n ≡ end_at old c y n

-- a unit is added, and an entry for it in unit a
pub record IsEntered (old new : Table) (a : ℕ) (d : Met) (n : ℕ) : Type 0 where
  pub mid : Table
  pub grown : IsGrown old mid d n
  pub set : IsEntrySet mid new a d.name.n (ToUnit n) 1
  pub room : old.count < 16777216

-- what was known stays known
pub record KeepsKnown (old new : Table) : Type 0 where
  pub units : (n : ℕ) (u : UnitPath) → Stands (table_paths old) n u → Stands (table_paths new) n u
  pub known : (a x : ℕ) (c : Known) → known_at old a x ≡ Some c → (d : Known) × (known_at new a x ≡ Some d)
