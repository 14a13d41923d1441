-- The bodies as they are laid.
use Rattle.std.specs.Prelude.{◌≡◌, ℕ, ◌+◌, List, [], ◌∷◌, ◌++◌, map, length, Vec}
use Rattle.std.specs.Global.{Global}
use Rattle.std.specs.List.{flat_map}
use Rattle.ar_base.specs.Lists.{Along}
use Rattle.ar_base.specs.Numbers.{NameId, BodyId}
use Rattle.ar_base.specs.declared.places.Place.{Place}
use Rattle.ar_syntax.specs.declared.items.Item.{Item}
use Rattle.ar_syntax.specs.declared.members.Member.{Member, out-Member}
use Rattle.ar_syntax.specs.declared.members.Unit.{Unit as UnitTree}
use Rattle.class_table.specs.Declaring.{TextBody, NamedType, Lays, Lays_one, Lays_items, symbols_of, FirstUses}
use Rattle.class_table.specs.TablesInside.{IsBodyOf, IsNamedType}
use Rattle.class_table.specs.declared.declaring.Declared.{Declared as Parts}
use Rattle.class_table.specs.declared.tables.Body.{Body}
use Rattle.class_table.specs.declared.tables.Owned.{Owned}

-- behind these bodies stand those of this unit and of the blocks in it
pub record LaysUnit (u : UnitTree) (old new : List Body) : Type 0 where
  pub bodies : List Body
  pub joined : new ≡ old ++ bodies
  pub own : List Owned
  pub inner : List TextBody
  pub as_text : Along IsBodyOf bodies (record { name = u.name; at = u.at; own = own } ∷ inner)
  pub lays : Lays (length old + 1) u.members.items own inner

-- behind these bodies stand those of the blocks in this member, which is kept so
pub record LaysMember (m : Member) (o : Owned) (old new : List Body) : Type 0 where
  pub bodies : List Body
  pub joined : new ≡ old ++ bodies
  pub inner : List TextBody
  pub as_text : Along IsBodyOf bodies inner
  pub lays : Lays_one (length old) m (out-Member m) o inner

-- behind these bodies stands one of this name and place, without members
pub record AddsBody (name : NameId) (at : Place) (old new : List Body) : Type 0 where
  pub body : Body
  pub has_name : body.name ≡ name
  pub has_place : body.at ≡ at
  pub no_own : body.own.items ≡ []
  pub no_all : body.all.items ≡ []
  pub joined : new ≡ old ++ body ∷ []

-- this member was added to those of a body, and behind the bodies stand those of the blocks in it
pub record AddsMember (m : Member) (own own' : List Owned) (old new : List Body) : Type 0 where
  pub kept : Owned
  pub added : own' ≡ own ++ kept ∷ []
  pub laid : LaysMember m kept old new

-- the parts are those of these items
pub record AreParts (items : List Item) (p : Parts) : Type 0 where
  pub bodies : List TextBody
  pub types : List (ℕ × NamedType)
  pub as_text : Along IsBodyOf p.bodies.items bodies
  pub as_types : Along (IsNamedType (map (λ (x : NameId). x.n) p.symbols.items)) p.types.items types
  pub symbols : FirstUses [] (flat_map symbols_of items) (map (λ (x : NameId). x.n) p.symbols.items)
  pub lays : Lays_items 0 items bodies types (map (λ (b : BodyId). b.n) p.blocks.items)

-- the body at the place has these members; all else is as it was
pub record KeepsOwn (own : Vec Owned Global) (old new : List Body) (place : ℕ) : Type 0 where
  pub kept : (front rest : List Body) (b : Body) → old ≡ front ++ b ∷ rest → place ≡ length front
      → new ≡ front ++ record b { own = own } ∷ rest
