-- What it is that two members or units agree.
use Rattle.std.specs.Prelude.{◌≡◌, ℕ, zero, suc, Vec}
use Rattle.std.specs.declared.alloc.Global.{Global}
use Rattle.ar_base.specs.Lists.{Along}
use Rattle.ar_base.specs.declared.places.Place.{Place}
use Rattle.ar_base.specs.Numbers.{NameId}
use Rattle.ar_syntax.specs.declared.paths.Path.{Path}
use Rattle.ar_syntax.specs.declared.expressions.RawExpr.{RawExpr}
use Rattle.ar_syntax.specs.declared.instructions.Instr.{Instr}
use Rattle.ar_syntax.specs.declared.members.Member.{Member}
use Rattle.ar_syntax.specs.declared.members.Member.TheVariants as member
use Rattle.ar_syntax.specs.declared.members.Part.{Part}
use Rattle.ar_syntax.specs.declared.members.Setting.{Setting}
use Rattle.ar_syntax.specs.declared.members.TypeName.{TypeName}
use Rattle.ar_syntax.specs.declared.members.Unit.{Unit as UnitTree}
use Rattle.parser_laws.specs.Expressions.{SamePath, SameExpr, SameInstr}

-- the same words, one place and one value
pub record SameSetting (s t : Setting) : Type 0 where
  pub target : s.target.items ≡ t.target.items
  pub place : s.at ≡ t.at
  pub value : SameExpr s.value t.value

-- both `!` or both `?`, and one event
pub record SamePart (p q : Part) : Type 0 where
  pub must : p.must ≡ q.must
  pub event : SamePath p.event q.event

-- one name, one place, and the same members in one order
pub record SameUnitBy (Same : Member → Member → Type 0) (u w : UnitTree) : Type 0 where
  pub name : u.name ≡ w.name
  pub place : u.at ≡ w.at
  pub members : Along Same u.members.items w.members.items

-- One kind of member, whose parts are the same.
pub data SameMemberBy (Same : Member → Member → Type 0) (m n : Member) : Type 0 where
  equal : m ≡ n → SameMemberBy Same m n
  declared : (t : TypeName) (v w : Vec (NameId × Place) Global) (s r : Vec Setting Global) → m ≡ member.Declare t v s
      → n ≡ member.Declare t w r →
      v.items ≡ w.items → Along SameSetting s.items r.items → SameMemberBy Same m n
  block : (u w : UnitTree) → m ≡ member.Block u → n ≡ member.Block w → SameUnitBy Same u w → SameMemberBy Same m n
  clones : (p q : Path) (name : NameId) (at : Place)
      → m ≡ member.Clones p name at → n ≡ member.Clones q name at → SamePath p q → SameMemberBy Same m n
  embeds : (p q : Path) (name : NameId) (at : Place)
      → m ≡ member.Embeds p name at → n ≡ member.Embeds q name at → SamePath p q → SameMemberBy Same m n
  parameter : (t : TypeName) (name : NameId) (at : Place) (e f : RawExpr) → m ≡ member.Parameter t name at e
      → n ≡ member.Parameter t name at f → SameExpr e f → SameMemberBy Same m n
  observer : (t : TypeName) (name : NameId) (at : Place) (e f : RawExpr) → m ≡ member.Observer t name at e
      → n ≡ member.Observer t name at f → SameExpr e f → SameMemberBy Same m n
  hidden : (p q : Path) → m ≡ member.Hide p → n ≡ member.Hide q → SamePath p q → SameMemberBy Same m n
  local : (name : NameId) (at : Place) (e f : RawExpr) (i j : Instr) → m ≡ member.Local name at e i
      → n ≡ member.Local name at f j → SameExpr e f → SameInstr i j → SameMemberBy Same m n
  sync : (name : NameId) (at : Place) (v w : Vec Part Global) → m ≡ member.Sync name at v → n ≡ member.Sync name at w
      → Along SamePart v.items w.items → SameMemberBy Same m n
  assertion : (i j : Instr) → m ≡ member.Assert i → n ≡ member.Assert j → SameInstr i j → SameMemberBy Same m n

-- the same down to depth d
abbrev pub SameMemberToDepth : ℕ → Member → Member → Type 0
SameMemberToDepth zero m n = Unit {0}
SameMemberToDepth (suc d) m n = SameMemberBy (SameMemberToDepth d) m n

-- the same at every depth
abbrev pub SameMember : Member → Member → Type 0
SameMember m n = (d : ℕ) → SameMemberToDepth d m n

abbrev pub SameUnit : UnitTree → UnitTree → Type 0
SameUnit u w = SameUnitBy SameMember u w
