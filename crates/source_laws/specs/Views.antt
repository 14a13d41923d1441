-- Members and items of one kind whose parts agree, kind by kind, so that a proof may take two of them apart together.
use Rattle.std.specs.Prelude.{◌≡◌, Option, Vec}
use Rattle.std.specs.declared.alloc.Global.{Global}
use Rattle.ar_base.specs.Lists.{Along}
use Rattle.ar_base.specs.Numbers.{NameId}
use Rattle.ar_base.specs.declared.places.Place.{Place}
use Rattle.ar_base.specs.declared.places.Span.{Span}
use Rattle.ar_syntax.specs.declared.expressions.RawExpr.{RawExpr}
use Rattle.ar_syntax.specs.declared.instructions.Instr.{Instr}
use Rattle.ar_syntax.specs.declared.items.DomainDecl.{DomainDecl}
use Rattle.ar_syntax.specs.declared.items.Item.{Item}
use Rattle.ar_syntax.specs.declared.items.Item.TheVariants as item
use Rattle.ar_syntax.specs.declared.members.Member.TheOpen as member
use Rattle.ar_syntax.specs.declared.members.Part.{Part}
use Rattle.ar_syntax.specs.declared.members.Setting.{Setting}
use Rattle.ar_syntax.specs.declared.members.TypeName.{TypeName}
use Rattle.ar_syntax.specs.declared.members.Unit.{Unit as UnitTree}
use Rattle.ar_syntax.specs.declared.paths.Path.{Path}
use Rattle.parser_laws.specs.Expressions.{SamePath, SameExpr, SameInstr}
use Rattle.parser_laws.specs.Members.{SameSetting, SamePart, SameUnit}
use Rattle.parser_laws.specs.Models.{SameDeclared}
use Rattle.class_table.specs.Declaring.{MemberForm}

-- members
pub data SameForms : MemberForm → MemberForm → Type 0 where
  extends : {x : NameId} {p : Place} → SameForms (member.Extends x p) (member.Extends x p)
  declares : {t : TypeName} {v w : Vec (NameId × Place) Global} {s r : Vec Setting Global} → v.items ≡ w.items
      → Along SameSetting s.items r.items → SameForms (member.Declare t v s) (member.Declare t w r)
  block : {u w : UnitTree} → SameUnit u w → SameForms (member.Block u) (member.Block w)
  clones : {p q : Path} {x : NameId} {at : Place} → SamePath p q
      → SameForms (member.Clones p x at) (member.Clones q x at)
  embeds : {p q : Path} {x : NameId} {at : Place} → SamePath p q
      → SameForms (member.Embeds p x at) (member.Embeds q x at)
  parameter : {t : TypeName} {x : NameId} {at : Place} {e f : RawExpr} → SameExpr e f
      → SameForms (member.Parameter t x at e) (member.Parameter t x at f)
  kept : {x : NameId} {at : Place} {s : Span} → SameForms (member.Kept x at s) (member.Kept x at s)
  event : {x : NameId} {at : Place} {s : Option Span} → SameForms (member.Event x at s) (member.Event x at s)
  observer : {t : TypeName} {x : NameId} {at : Place} {e f : RawExpr} → SameExpr e f
      → SameForms (member.Observer t x at e) (member.Observer t x at f)
  hides : {p q : Path} → SamePath p q → SameForms (member.Hide p) (member.Hide q)
  local : {x : NameId} {at : Place} {e f : RawExpr} {i j : Instr} → SameExpr e f → SameInstr i j
      → SameForms (member.Local x at e i) (member.Local x at f j)
  sync : {x : NameId} {at : Place} {v w : Vec Part Global} → Along SamePart v.items w.items
      → SameForms (member.Sync x at v) (member.Sync x at w)
  asserts : {i j : Instr} → SameInstr i j → SameForms (member.Assert i) (member.Assert j)

-- items
pub data SameItems : Item → Item → Type 0 where
  domain : {d c : DomainDecl} → SameDeclared d c → SameItems (item.Domain d) (item.Domain c)
  class : {u w : UnitTree} → SameUnit u w → SameItems (item.Class u) (item.Class w)
  block_item : {u w : UnitTree} → SameUnit u w → SameItems (item.Block u) (item.Block w)
