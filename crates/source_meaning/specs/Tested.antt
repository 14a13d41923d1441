-- Which expressions, paths and instructions of a tree are tested, and what is wanted of each.
use Rattle.std.specs.Prelude.{◌≡◌, ℕ, ◌<◌, ◌⊎◌, List, [], ◌∷◌, Option, Some, None}
use Rattle.ar_base.specs.Lists.{Stands, IsOneOf}
use Rattle.ar_base.specs.declared.places.Place.{Place}
use Rattle.ar_syntax.specs.declared.expressions.RawExpr.{RawExpr}
use Rattle.ar_syntax.specs.declared.instructions.Instr.{Instr, out-Instr}
use Rattle.ar_syntax.specs.declared.members.Member.TheOpen as member
use Rattle.ar_syntax.specs.declared.members.TypeForm.{TypeForm}
use Rattle.ar_syntax.specs.declared.paths.Path.{Path}
use Rattle.ar_syntax.specs.declared.paths.PathStart.TheVariants.{Here}
use Rattle.typed_expr.specs.declared.expr.ValueKind.{ValueKind}
use Rattle.typed_expr.specs.declared.expr.ValueKind.TheVariants.{Truth}
use Rattle.ar_base.specs.Numbers.{NameId}
use Rattle.class_table.specs.Members.{NamedMember, Observer}
use Rattle.written_forms.specs.Parts.{InstrForm, IsPartOf}
use Rattle.hierarchy.specs.Models.{RootedModel}
use Rattle.hierarchy.specs.Units.{UnitPath, Thing, names_at, kind_at, numbers}
use Rattle.hierarchy.specs.Walks.{Finds, PassesTest, thing, is_variable}
use Rattle.hierarchy.specs.Listing.{forms_at, variables, parameters, observers}
use Rattle.hierarchy.specs.Settings.{Attribute, in_force}
use Rattle.source_meaning.specs.Means.{is_valued, IsSymbol}
use Rattle.source_meaning.specs.Kinds.{kind_of_type, IsOfKind}

-- Instructions

-- the instruction stands in the action of a transition of the unit u
pub record InAction (m : RootedModel) (u : UnitPath) (i : InstrForm) : Type 0 where
  pub event : NameId
  pub at : Place
  pub guard : RawExpr
  pub action : Instr
  pub is_member : IsOneOf (forms_at m u) (member.Local event at guard action)
  pub is_part : IsPartOf i (out-Instr action)

-- the instruction stands in an assertion of the unit u
pub record InAssertion (m : RootedModel) (u : UnitPath) (i : InstrForm) : Type 0 where
  pub whole : Instr
  pub is_member : IsOneOf (forms_at m u) (member.Assert whole)
  pub is_part : IsPartOf i (out-Instr whole)

-- the instruction stands in an action or an assertion of the unit u
abbrev pub InSome : RootedModel → UnitPath → InstrForm → Type 0
InSome m u i = InAction m u i ⊎ InAssertion m u i

-- Expressions

-- what an expression may name: all variables and parameters; parameters of its unit alone; or of these those alone that
-- come before a name in the unit
pub data Scope : Type 0 where
  Everything : Scope
  Constants : Scope
  Before : ℕ → Scope

-- the scope of a value in force: the value that a parameter declares itself may name earlier parameters alone
abbrev pub scope_of : ℕ → Option ℕ → Scope
scope_of x None = Before x
scope_of x (Some k) = Constants

-- the thing has a value that is read: it is a variable, or a parameter that is not Real
pub data IsReadable (m : RootedModel) (units : List UnitPath) (t : Thing) : Type 0 where
  of_variable : IsOneOf (variables m units) t → IsReadable m units t
  of_parameter : IsOneOf (parameters m units) t → PassesTest m is_valued t → IsReadable m units t

-- the expression, of which this kind is wanted, is tested where it stands in the unit, apart from those in
-- instructions: a value in force, an observer or a guard
pub data Tested (m : RootedModel) (units : List UnitPath) : UnitPath → Scope → ValueKind → RawExpr → Type 0 where
  value : {k : ValueKind} (t : Thing) (a : Attribute) → IsReadable m units t → in_force m t ≡ Some a → IsOfKind m t k
      → Tested m units a.unit (scope_of t.name a.setting) k a.value
  observer : {e : RawExpr} {k : ValueKind} (t : Thing) (type : TypeForm) → IsOneOf (observers m units) t
      → kind_at m t.unit t.name ≡ Some (Observer type e)
      → kind_of_type m type ≡ Some k → Tested m units t.unit Everything k e
  guard : {u : UnitPath} {e : RawExpr} (x : NameId) (at : Place) (action : Instr) → IsOneOf units u
      → IsOneOf (forms_at m u) (member.Local x at e action)
      → Tested m units u Everything Truth e

-- Names

-- the path is this one name
pub record IsOneName (p : Path) (x : ℕ) : Type 0 where
  pub here : p.start ≡ Here
  pub single : numbers p.names.items ≡ x ∷ []

-- in the unit u, the name x comes before the name y in member order
pub record IsEarlierMember (m : RootedModel) (u : UnitPath) (x y : ℕ) : Type 0 where
  pub j : ℕ
  pub k : ℕ
  pub first : NamedMember
  pub later : NamedMember
  pub is_first : Stands (names_at m u) j first
  pub is_later : Stands (names_at m u) k later
  pub before : j < k
  pub first_name : first.name ≡ x
  pub later_name : later.name ≡ y

-- a path in an expression of this scope names something that it may name
pub data MayName (m : RootedModel) (u : UnitPath) : Scope → Path → Type 0 where
  symbol : {s : Scope} {p : Path} (k : ℕ) → IsSymbol m u p k → MayName m u s p
  variable : {p : Path} (t : Thing) → Finds m is_variable u p t → MayName m u Everything p
  parameter : {p : Path} (t : Thing) → Finds m is_valued u p t → MayName m u Everything p
  own : {p : Path} (x : ℕ) → IsOneName p x → PassesTest m is_valued (thing u x) → MayName m u Constants p
  earlier : {p : Path} {y : ℕ} (x : ℕ) → IsOneName p x → PassesTest m is_valued (thing u x) → IsEarlierMember m u x y
      → MayName m u (Before y) p

-- the path, read in the unit u, names a variable
pub record NamesVariable (m : RootedModel) (u : UnitPath) (p : Path) : Type 0 where
  pub thing : Thing
  pub finds : Finds m is_variable u p thing
