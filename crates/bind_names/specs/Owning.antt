-- The scope of a value that its thing declares itself, and what an observer is declared with.
use Rattle.std.specs.Prelude.{◌≡◌, ℕ, List, Option, Some, None}
use Rattle.ar_syntax.specs.declared.expressions.RawExpr.{RawExpr}
use Rattle.ar_syntax.specs.declared.members.Member.{out-Member}
use Rattle.ar_syntax.specs.declared.members.Member.TheOpen as member
use Rattle.ar_syntax.specs.declared.members.TypeForm.{TypeForm}
use Rattle.class_table.specs.Declaring.{MemberForm}
use Rattle.class_table.specs.declared.tables.Owned.{Owned}
use Rattle.class_table.specs.declared.tables.Owned.TheVariants.{Plain, Nested}
use Rattle.hierarchy.specs.Models.{RootedModel}
use Rattle.hierarchy.specs.Units.{UnitPath, Thing}
use Rattle.hierarchy.specs.Settings.{Attribute, in_force}
use Rattle.source_meaning.specs.Tested as s
use Rattle.bind_scopes.specs.Scopes.{IsScope}
use Rattle.bind_scopes.specs.declared.scopes.Scope.{Scope}
use Rattle.bind_scopes.specs.declared.scopes.Scope.TheVariants.{Constants}

-- where the thing declares its value in force itself, the value may name what comes before the thing
pub record IsOwnScope (m : RootedModel) (units : List UnitPath) (t : Thing) (own : Scope) : Type 0 where
  pub scope : (a : Attribute) → in_force m t ≡ Some a → a.setting ≡ None → IsScope m units a.unit own (s.Before t.name)

-- the scope of a value by the setting in which it stands
abbrev pub scope_by : Scope → Option ℕ → Scope
scope_by own None = own
scope_by own (Some k) = Constants

-- the type and the expression of an observer
abbrev pub observed_form : MemberForm → Option (TypeForm × RawExpr)
observed_form (member.Observer t x at e) = Some (t.form, e)
observed_form _ = None

-- the same of a member that was looked up
abbrev pub observed_in : Option Owned → Option (TypeForm × RawExpr)
observed_in None = None
observed_in (Some (Plain m)) = observed_form (out-Member m)
observed_in (Some (Nested x at b)) = None
