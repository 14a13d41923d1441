-- Events that are given their transitions and synchronisations member by member.
use Rattle.std.specs.Prelude.{◌≡◌, ℕ, ◌<◌, ◌≤◌, ◌^◌, ◌==◌, false, List, [], ◌∷◌, ◌++◌, filter, length, set, Option, Some, None, Vec}
use Rattle.std.specs.Global.{Global}
use Rattle.ar_base.specs.Lists.{Stands, Along}
use Rattle.ar_base.specs.Numbers.{NameId}
use Rattle.ar_meaning.specs.Found.{IsAnswer}
use Rattle.gts_core.specs.declared.bound.DeclaredEvent.{DeclaredEvent}
use Rattle.gts_core.specs.declared.bound.DeclaredWay.{DeclaredWay}
use Rattle.class_table.specs.Declaring.{MemberForm}
use Rattle.hierarchy.specs.Models.{RootedModel}
use Rattle.hierarchy.specs.Units.{UnitPath, Thing}
use Rattle.hierarchy.specs.Listing.{events, is_way_of}
use Rattle.hierarchy.specs.Paths.{thing_path}
use Rattle.hierarchy.specs.declared.tree.Tree.{Tree}
use Rattle.source_meaning.specs.Systems.{IsHidden}
use Rattle.bind_names.specs.Ways.{IsBoundWay}

-- the answer is the name of the event of which the member is a transition or a synchronisation, and none where it is
-- neither
abbrev pub NamesEventOfMember : MemberForm → Option NameId → Type 0
NamesEventOfMember f None = (x : ℕ) → is_way_of x f ≡ false
NamesEventOfMember f (Some y) = (x : ℕ) → is_way_of x f ≡ (y.n == x)

-- the answer is the bound way that the member of the unit u is, with the name of its event; none where the member is no
-- way
abbrev pub IsNamedWay : RootedModel → List UnitPath → Tree → UnitPath → MemberForm → Option (NameId × DeclaredWay)
    → Type 0
IsNamedWay m units tree u f None = NamesEventOfMember f None
IsNamedWay m units tree u f (Some n) = NamesEventOfMember f (Some n.0) × IsBoundWay m units tree u f n.1

-- the event has the path and the unit of the thing, and tells whether a hide clause names it
pub record IsHead (m : RootedModel) (units : List UnitPath) (t : Thing) (e : DeclaredEvent) : Type 0 where
  pub path : e.path ≡ thing_path m t
  pub unit : Stands units e.unit.n t.unit
  pub hidden : IsAnswer e.hidden (IsHidden m units t)

-- the same, and its ways are those that these members of its unit are
pub record HasWays (m : RootedModel) (units : List UnitPath) (tree : Tree) (forms : List MemberForm) (t : Thing)
    (e : DeclaredEvent) : Type 0 where
  pub head : IsHead m units t e
  pub few : length e.ways.items < 2 ^ 32
  pub ways : Along (IsBoundWay m units tree t.unit) (filter (is_way_of t.name) forms) e.ways.items

-- event n of these is that of the thing, with the ways that these members are
pub record HasWaysAt (m : RootedModel) (units : List UnitPath) (tree : Tree) (list : List DeclaredEvent) (n : ℕ)
    (t : Thing) (forms : List MemberForm) : Type 0 where
  pub event : DeclaredEvent
  pub stands : Stands list n event
  pub has : HasWays m units tree forms t event

-- the way was put behind those of event n
pub record PutsWay (n : ℕ) (w : DeclaredWay) (old new : List DeclaredEvent) : Type 0 where
  pub event : DeclaredEvent
  pub stands : Stands old n event
  pub ways : Vec DeclaredWay Global
  pub is : ways.items ≡ event.ways.items ++ w ∷ []
  pub few : length ways.items < 2 ^ 32
  pub new_is : new ≡ set old n (record event { ways = ways })

-- the same, where there is event n; else nothing changed
pub data PutsWayIn (n : ℕ) (w : DeclaredWay) (old : List DeclaredEvent) : List DeclaredEvent → Type 0 where
  there : {new : List DeclaredEvent} → PutsWay n w old new → PutsWayIn n w old new
  nowhere : {new : List DeclaredEvent} → length old ≤ n → new ≡ old → PutsWayIn n w old new

-- the ways that these members of the unit u are were added to the events of u, and nothing to others
pub record AddsMembers (m : RootedModel) (units : List UnitPath) (tree : Tree) (u : UnitPath) (forms : List MemberForm)
    (old new : List DeclaredEvent) : Type 0 where
  pub same : length new ≡ length old
  pub added : (n : ℕ) (t : Thing) (before : List MemberForm) → Stands (events m units) n t → t.unit ≡ u
      → HasWaysAt m units tree old n t before
      → HasWaysAt m units tree new n t (before ++ forms)
  pub kept : (n : ℕ) (t : Thing) (before : List MemberForm) → Stands (events m units) n t → (t.unit ≡ u → ⊥)
      → HasWaysAt m units tree old n t before
      → HasWaysAt m units tree new n t before
