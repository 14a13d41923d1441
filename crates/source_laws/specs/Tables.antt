-- What it is that two models agree as they are declared, and as they are seen from their main block.
use Rattle.std.specs.Prelude.{◌≡◌, ℕ, List, Option}
use Rattle.ar_base.specs.Lists.{Along}
use Rattle.class_table.specs.Declaring.{TextBody, NamedType, DomainType, ClassType, Declared}
use Rattle.class_table.specs.Tables.{IsMain}
use Rattle.class_table.specs.declared.tables.Owned.{Owned}
use Rattle.class_table.specs.declared.tables.Owned.TheVariants.{Plain, Nested}
use Rattle.parser_laws.specs.Members.{SameMember}
use Rattle.parser_laws.specs.Models.{SameDomain}
use Rattle.hierarchy.specs.Models.{RootedModel}

-- members that agree, or one nested block
abbrev pub SameOwned : Owned → Owned → Type 0
SameOwned (Plain m) (Plain n) = SameMember m n
SameOwned (Nested x p b) (Nested y q c) = (x ≡ y) × (p ≡ q) × (b ≡ c)
SameOwned _ _ = ⊥

-- one name, one place, and members that agree
pub record SameText (b c : TextBody) : Type 0 where
  pub name : b.name ≡ c.name
  pub place : b.at ≡ c.at
  pub own : Along SameOwned b.own c.own

-- the same domain, or one class
abbrev pub SameType : NamedType → NamedType → Type 0
SameType (DomainType x) (DomainType y) = SameDomain x y
SameType (ClassType a) (ClassType b) = a ≡ b
SameType _ _ = ⊥

-- one name and the same type
abbrev pub SameNamedType : ℕ × NamedType → ℕ × NamedType → Type 0
SameNamedType t u = (t.0 ≡ u.0) × SameType t.1 u.1

-- bodies and types that agree in one order, the same symbols and the same blocks
pub record SameTable (d e : Declared) : Type 0 where
  pub bodies : Along SameText d.bodies e.bodies
  pub types : Along SameNamedType d.types e.types
  pub symbols : d.symbols ≡ e.symbols
  pub blocks : d.blocks ≡ e.blocks

-- the same table, members and names; the main block of the first is one of the second too
pub record AreSeenAlike (main : Option (List ℕ)) (m n : RootedModel) : Type 0 where
  pub declared : SameTable m.declared n.declared
  pub members : m.members ≡ n.members
  pub names : m.names ≡ n.names
  pub is_main : IsMain n.names n.declared main m.main

-- the same table, members, main block and names
pub record SameRooted (m n : RootedModel) : Type 0 where
  pub declared : SameTable m.declared n.declared
  pub members : m.members ≡ n.members
  pub main : m.main ≡ n.main
  pub names : m.names ≡ n.names
