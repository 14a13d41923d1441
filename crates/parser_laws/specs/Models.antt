-- What it is that two models agree, and that a text has one tree at most.
use Rattle.std.specs.Prelude.{◌≡◌, ℕ, List, Vec}
use Rattle.std.specs.declared.alloc.Global.{Global}
use Rattle.ar_base.specs.Lists.{Along}
use Rattle.ar_base.specs.declared.places.Place.{Place}
use Rattle.ar_base.specs.Numbers.{NameId}
use Rattle.ar_parser.specs.Models.{ReadsWithin}
use Rattle.ar_syntax.specs.declared.members.Unit.{Unit as UnitTree}
use Rattle.ar_syntax.specs.declared.items.DomainBody.{DomainBody}
use Rattle.ar_syntax.specs.declared.items.DomainBody.TheVariants as domain
use Rattle.ar_syntax.specs.declared.items.DomainDecl.{DomainDecl}
use Rattle.ar_syntax.specs.declared.items.Item.{Item}
use Rattle.ar_syntax.specs.declared.items.Item.TheVariants as item
use Rattle.ar_syntax.specs.declared.items.Model.{Model}
use Rattle.parser_laws.specs.Members.{SameUnit}

-- the same symbols in one order, each in its place, or the same bounds
pub data SameDomain (x y : DomainBody) : Type 0 where
  symbols : (v w : Vec (NameId × Place) Global) → x ≡ domain.Symbols v → y ≡ domain.Symbols w → v.items ≡ w.items
      → SameDomain x y
  range : x ≡ y → SameDomain x y

-- one name, one place and the same values
pub record SameDeclared (d c : DomainDecl) : Type 0 where
  pub name : d.name ≡ c.name
  pub place : d.at ≡ c.at
  pub body : SameDomain d.body c.body

pub data SameItem (x y : Item) : Type 0 where
  domains : (d c : DomainDecl) → x ≡ item.Domain d → y ≡ item.Domain c → SameDeclared d c → SameItem x y
  classes : (u w : UnitTree) → x ≡ item.Class u → y ≡ item.Class w → SameUnit u w → SameItem x y
  blocks : (u w : UnitTree) → x ≡ item.Block u → y ≡ item.Block w → SameUnit u w → SameItem x y

-- the same items in one order, the same names with the same numbers, and one end
pub record SameModel (m n : Model) : Type 0 where
  pub items : Along SameItem m.items.items n.items.items
  pub names : m.names ≡ n.names
  pub end : m.end ≡ n.end

-- by each limit of nesting, a text has one tree at most
abbrev pub HasOneTree : List ℕ → Type 0
HasOneTree bytes = (n : ℕ) (x y : Model) → ReadsWithin n bytes x → ReadsWithin n bytes y → SameModel x y
