-- The names of members of bodies, as they are kept in a set.
use Rattle.std.specs.Prelude.{◌≡◌, ◌⊎◌, ◌<◌, ℕ, true, List}
use Rattle.std.specs.HashSet.{HashSet, contains}
use Rattle.ar_base.specs.Lists.{IsOneOf, Stands}
use Rattle.class_table.specs.Members.{NamedMember}
use Rattle.hierarchy.specs.Models.{RootedModel}
use Rattle.hierarchy.specs.Units.{UnitPath, body_of, names_at}
use Rattle.hierarchy.specs.UnitsInside.{names_in}
use Rattle.bind_scopes.specs.Indexed.{is_same_index}

-- the name is in the set, for this body
abbrev pub HasName : {S : Type 0} → HashSet (ℕ × ℕ) S → ℕ → ℕ → Type 0
HasName names b x = contains is_same_index names (b, x) ≡ true

-- a member of this name
pub record NamesSo (members : List NamedMember) (x : ℕ) : Type 0 where
  pub member : NamedMember
  pub is_one : IsOneOf members member
  pub name : member.name ≡ x

-- the names of these members were added, for this body
pub record AddsMemberNames {S : Type 0} (b : ℕ) (members : List NamedMember) (old new : HashSet (ℕ × ℕ) S) : Type 0 where
  pub kept : (c x : ℕ) → HasName old c x → HasName new c x
  pub added : (x : ℕ) → NamesSo members x → HasName new b x
  pub only : (c x : ℕ) → HasName new c x → HasName old c x ⊎ ((c ≡ b) × NamesSo members x)

-- the set has the names of the members of the first n units, for the units' bodies
pub record HasFirst {S : Type 0} (m : RootedModel) (units : List UnitPath) (n : ℕ) (names : HashSet (ℕ × ℕ) S) : Type
    0 where
  pub there : (k : ℕ) (u : UnitPath) (x : ℕ) → k < n → Stands units k u → NamesSo (names_at m u) x
      → HasName names (body_of m u) x
  pub only : (b x : ℕ) → HasName names b x → NamesSo (names_in m b) x
