-- What the names of bodies may be units by.
use Rattle.std.specs.Prelude.{◌≡◌, ◌<◌, ◌⊎◌, ℕ, Bool, true, false, List, [], ◌++◌, filter, Option, Some, None, slice_get, option_map, nat_eq, ◌&&◌, Vec}
use Rattle.std.specs.Borrow.{Bor}
use Rattle.std.specs.Global.{Global}
use Rattle.std.specs.HashMap.{get, HashMap}
use Rattle.ar_base.specs.Lists.{Along, Stands}
use Rattle.ar_base.specs.Numbers.{NameId, BodyId}
use Rattle.ar_base.specs.declared.places.Place.{Place}
use Rattle.ar_syntax.specs.declared.paths.Path.{Path}
use Rattle.class_table.specs.Declaring.{Declared}
use Rattle.class_table.specs.Members.{Site, MemberKind, Inner, Clone, Alias, NamedMember, named_at, member_named, all_named}
use Rattle.class_table.specs.TablesInside.{site_of}
use Rattle.hierarchy.specs.Models.{RootedModel}
use Rattle.hierarchy.specs.UnitsInside.{names_in}
use Rattle.unit_walks.specs.declared.forms.UnitForm.{UnitForm}
use Rattle.unit_walks.specs.declared.forms.UnitForm.TheVariants as form
use Rattle.unit_walks.specs.declared.forms.UnitName.{UnitName}
use Rattle.unit_walks.specs.declared.forms.Forms.{Forms}

-- what the name x is in a body
abbrev pub member_kind_in : RootedModel → ℕ → ℕ → Option MemberKind
member_kind_in m b x = option_map (λ (g : NamedMember). g.kind) (member_named (names_in m b) x)

-- a block, an instance, a clone or an alias may be a unit
abbrev pub may_be_unit : MemberKind → Bool
may_be_unit (Inner b s) = true
may_be_unit (Clone p) = true
may_be_unit (Alias p) = true
may_be_unit _ = false

-- those of these names that may be units
abbrev pub only_units : List NamedMember → List NamedMember
only_units gs = filter (λ (g : NamedMember). may_be_unit g.kind) gs

-- the instances of a class that a declaration names
abbrev pub instances : Site → ℕ → List (NameId × Place) → List NamedMember
instances s b names = all_named s (Some (Inner b (Some s))) names

-- the code keeps this of what a name is
pub data IsKeptForm : UnitForm → MemberKind → Type 0 where
  inner : {b : ℕ} {s : Option Site} {id : BodyId} {at : Option (BodyId × ℕ)} → id.n ≡ b → option_map site_of at ≡ s
      → IsKeptForm (form.Inner id at) (Inner b s)
  clone : {p : Path} {kept : Bor Path} → kept.now ≡ p → IsKeptForm (form.Clone kept) (Clone p)
  alias : {p : Path} {kept : Bor Path} → kept.now ≡ p → IsKeptForm (form.Alias kept) (Alias p)

-- the code keeps the name so
pub record IsUnitName (n : UnitName) (g : NamedMember) : Type 0 where
  pub name : n.name.n ≡ g.name
  pub form : IsKeptForm n.form g.kind

-- the list is that of the names of these members that may be units
abbrev pub IsUnitList : Declared → Vec UnitName Global → List Site → Type 0
IsUnitList d list sites = Along IsUnitName list.items (only_units (named_at d sites))

-- behind the names that were listed stand these
abbrev pub AddsUnitNames : List NamedMember → List UnitName → List UnitName → Type 0
AddsUnitNames gs old new = (before : List NamedMember) → Along IsUnitName old before → Along IsUnitName new (before ++ gs)

-- the form that is found, if one is, is that of what the name is; else the name is no unit
pub data IsLookedUp : Option UnitForm → Option MemberKind → Type 0 where
  is : {f : UnitForm} {k : MemberKind} → IsKeptForm f k → IsLookedUp (Some f) (Some k)
  no_unit : {k : MemberKind} → may_be_unit k ≡ false → IsLookedUp None (Some k)
  absent : IsLookedUp None None

-- Look-ups

abbrev pub same_pair : ℕ × ℕ → ℕ × ℕ → Bool
same_pair a b = nat_eq a.0 b.0 && nat_eq a.1 b.1

-- the items of a list that was looked up
abbrev pub body_names : Option (Vec UnitName Global) → List UnitName
body_names None = []
body_names (Some v) = v.items

-- the list of a body
abbrev pub list_at : Forms → ℕ → List UnitName
list_at f b = body_names (slice_get f.lists.items b)

-- the place of the name x in the list of a body
abbrev pub name_place : Forms → ℕ → ℕ → Option ℕ
name_place f b x = get same_pair f.places (b, x)

-- the form that stands at a place
abbrev pub form_from : List UnitName → Option ℕ → Option UnitForm
form_from ns None = None
form_from ns (Some k) = option_map (λ (n : UnitName). n.form) (slice_get ns k)

-- what is found for the name x in a body
abbrev pub form_at : Forms → ℕ → ℕ → Option UnitForm
form_at f b x = form_from (list_at f b) (name_place f b x)

-- name k of list c is x
pub record HasUnitName (lists : List (Vec UnitName Global)) (c k x : ℕ) : Type 0 where
  pub list : Vec UnitName Global
  pub named : UnitName
  pub has_list : Stands lists c list
  pub has_name : Stands list.items k named
  pub name : named.name.n ≡ x

-- the places are those of the names of the lists before list b, and of the first i of that list
pub record AreIndexed {S : Type 0} (lists : List (Vec UnitName Global)) (b i : ℕ) (places : HashMap (ℕ × ℕ) ℕ S) : Type
    0 where
  pub found : (c x k : ℕ) → get same_pair places (c, x) ≡ Some k → HasUnitName lists c k x
  pub all : (c k x : ℕ) → HasUnitName lists c k x → (c < b) ⊎ ((c ≡ b) × (k < i))
      → (j : ℕ) × (get same_pair places (c, x) ≡ Some j)

-- no name stands twice in a body
pub record AreOnce (m : RootedModel) : Type 0 where
  pub once : (b i j : ℕ) (g h : NamedMember) → Stands (names_in m b) i g → Stands (names_in m b) j h → g.name ≡ h.name
      → i ≡ j

-- these are the forms of the names of a model that names nothing twice
pub record IsFormsFor (m : RootedModel) (f : Forms) : Type 0 where
  pub lists : Along (IsUnitList m.declared) f.lists.items m.members
  pub index : (c x k : ℕ) → name_place f c x ≡ Some k → HasUnitName f.lists.items c k x
  pub all : (c k x : ℕ) → HasUnitName f.lists.items c k x → (j : ℕ) × (name_place f c x ≡ Some j)
  pub names : AreOnce m
