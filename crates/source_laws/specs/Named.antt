-- Names of members that agree, kind by kind.
use Rattle.std.specs.Prelude.{◌≡◌, ℕ, List, Option}
use Rattle.ar_base.specs.Lists.{Along}
use Rattle.ar_syntax.specs.declared.expressions.RawExpr.{RawExpr}
use Rattle.ar_syntax.specs.declared.members.Setting.{Setting}
use Rattle.ar_syntax.specs.declared.members.TypeForm.{TypeForm}
use Rattle.ar_syntax.specs.declared.paths.Path.{Path}
use Rattle.class_table.specs.Members.{Site, MemberKind, Inner, Clone, Alias, Variable, Parameter, Kept, Event, Observer, NamedMember}
use Rattle.parser_laws.specs.Expressions.{SamePath, SameExpr}
use Rattle.parser_laws.specs.Members.{SameSetting}

-- what two names are: the same, with paths, settings and values that agree
pub data SameMeant : MemberKind → MemberKind → Type 0 where
  inner : {b : ℕ} {s : Option Site} → SameMeant (Inner b s) (Inner b s)
  clone : {p q : Path} → SamePath p q → SameMeant (Clone p) (Clone q)
  alias : {p q : Path} → SamePath p q → SameMeant (Alias p) (Alias q)
  variable : {t : TypeForm} {ss rs : List Setting} → Along SameSetting ss rs → SameMeant (Variable t ss) (Variable t rs)
  parameter : {t : TypeForm} {e f : RawExpr} → SameExpr e f → SameMeant (Parameter t e) (Parameter t f)
  kept : SameMeant Kept Kept
  event : SameMeant Event Event
  observer : {t : TypeForm} {e f : RawExpr} → SameExpr e f → SameMeant (Observer t e) (Observer t f)

-- one name at one place, given by the member of one site
pub record SameNamed (g h : NamedMember) : Type 0 where
  pub name : g.name ≡ h.name
  pub place : g.at ≡ h.at
  pub kind : SameMeant g.kind h.kind
  pub site : g.site ≡ h.site
