-- Units and the things in them.
use Rattle.std.specs.Prelude.{ℕ, ◌==◌, ◌&&◌, ◌||◌, Bool, true, false, List, [], ◌∷◌, map, Option, Some, None, slice_get, unwrap_or, option_map}
use Rattle.ar_base.specs.Numbers.{NameId}
use Rattle.ar_syntax.specs.declared.paths.PathStart.{PathStart}
use Rattle.ar_syntax.specs.declared.paths.PathStart.TheVariants.{Here, Owner, Main}
use Rattle.class_table.specs.Members.{Site, NamedMember, MemberKind, named_at, member_named}
use Rattle.hierarchy.specs.Models.{RootedModel}

-- a level of the tree: the unit's name in the unit above it, its body, and the declaration whose settings hold in it,
-- which a block has none of
pub record UnitLevel : Type 0 where
  pub name : ℕ
  pub body : ℕ
  pub set_at : Option Site

-- a unit: its own level, then those of the units above it; the main block is the empty list
abbrev pub UnitPath : Type 0
UnitPath = List UnitLevel

-- a name in a unit
pub record Thing : Type 0 where
  pub unit : UnitPath
  pub name : ℕ

-- the body of a unit
abbrev pub body_of : RootedModel → UnitPath → ℕ
body_of m [] = m.main
body_of m (l ∷ above) = l.body

-- the declaration whose settings hold in the unit
abbrev pub set_at_of : UnitPath → Option Site
set_at_of [] = None
set_at_of (l ∷ above) = l.set_at

-- the bodies of a unit and of those above it
abbrev pub bodies_of : RootedModel → UnitPath → List ℕ
bodies_of m [] = m.main ∷ []
bodies_of m (l ∷ above) = l.body ∷ bodies_of m above

-- the number is in the list
abbrev pub has_number : List ℕ → ℕ → Bool
has_number [] n = false
has_number (k ∷ ks) n = (k == n) || has_number ks n

-- tests for one unit and one thing, by names and bodies

-- the same names and bodies
abbrev pub same_unit : UnitPath → UnitPath → Bool
same_unit [] [] = true
same_unit [] (l ∷ above) = false
same_unit (l ∷ above) [] = false
same_unit (l ∷ above) (k ∷ others) = (l.name == k.name) && ((l.body == k.body) && same_unit above others)

-- the same unit and name
abbrev pub same_thing : Thing → Thing → Bool
same_thing t s = (t.name == s.name) && same_unit t.unit s.unit

-- the thing is in the list
abbrev pub is_among : List Thing → Thing → Bool
is_among [] t = false
is_among (s ∷ ss) t = same_thing s t || is_among ss t

-- Members of a unit

-- the members of a unit, inherited ones included
abbrev pub members_at : RootedModel → UnitPath → List Site
members_at m u = unwrap_or (slice_get m.members (body_of m u)) []

-- what they name
abbrev pub names_at : RootedModel → UnitPath → List NamedMember
names_at m u = named_at m.declared (members_at m u)

-- the member that gives the name x in the unit u
abbrev pub name_at : RootedModel → UnitPath → ℕ → Option NamedMember
name_at m u x = member_named (names_at m u) x

-- what the name x is in the unit u
abbrev pub kind_at : RootedModel → UnitPath → ℕ → Option MemberKind
kind_at m u x = option_map (λ (g : NamedMember). g.kind) (name_at m u x)

-- where a path that is read in the unit u starts; above the main block there is nothing
abbrev pub start_of : PathStart → UnitPath → Option UnitPath
start_of Here u = Some u
start_of Owner [] = None
start_of Owner (l ∷ above) = Some above
start_of Main u = Some []

-- names by their numbers
abbrev pub numbers : List NameId → List ℕ
numbers names = map (λ (x : NameId). x.n) names
