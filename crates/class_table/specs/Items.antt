-- The parts of rule L1.
use Rattle.std.specs.Prelude.{◌≡◌, ◌<◌, ◌⊎◌, ℕ, ℤ, pos, ◌+ℤ◌, ◌<ℤ◌, List, map, length}
use Rattle.ar_base.specs.Numbers.{NameId}
use Rattle.class_table.specs.Names.{name_and_place}
use Rattle.class_table.specs.Repeating.{IsRepeated}
use Rattle.ar_base.specs.Lists.{IsOneOf}
use Rattle.ar_base.specs.declared.places.Place.{Place}
use Rattle.ar_syntax.specs.declared.items.Item.{Item}
use Rattle.ar_syntax.specs.declared.items.Item.TheVariants as item
use Rattle.ar_syntax.specs.declared.items.DomainDecl.{DomainDecl}
use Rattle.class_table.specs.Rules.{IsNoDomain, item_name, item_place}

-- the domain is none, and this is its place
pub record IsNoneAt (d : DomainDecl) (p : Place) : Type 0 where
  pub is_none : IsNoDomain d.body
  pub at : p ≡ d.at

-- the item is a domain that is none, of this place
abbrev pub IsNoDomainItem : Item → Place → Type 0
IsNoDomainItem (item.Domain d) p = IsNoneAt d p
IsNoDomainItem (item.Class u) p = ⊥
IsNoDomainItem (item.Block u) p = ⊥

-- the name of an item with its place
abbrev pub item_pair : Item → ℕ × Place
item_pair i = ((item_name i).n, item_place i)

-- one of the items is a domain that is none, of this place
pub record HasNoDomain (items : List Item) (p : Place) : Type 0 where
  pub item : Item
  pub is_item : IsOneOf items item
  pub is_none : IsNoDomainItem item p

-- the bounds are turned round or too far apart
abbrev pub IsNoRange : ℤ → ℤ → Type 0
IsNoRange low high = (high <ℤ low) ⊎ ((low +ℤ pos 255) <ℤ high)

-- a symbol stands twice or there are too many
abbrev pub AreNoSymbols : List (NameId × Place) → Type 0
AreNoSymbols symbols = (256 < length symbols) ⊎ ((p : Place) × IsRepeated (map name_and_place symbols) p)
