-- Rules L10 to L13, each with the places where it is broken.
use Rattle.std.specs.Prelude.{◌≡◌, ℕ, Bool, false, List, [], ◌∷◌, Option, Some, None, Vec}
use Rattle.std.specs.Global.{Global}
use Rattle.ar_base.specs.Lists.{IsOneOf}
use Rattle.ar_base.specs.declared.places.Place.{Place}
use Rattle.ar_syntax.specs.declared.expressions.RawExpr.{RawExpr}
use Rattle.ar_syntax.specs.declared.instructions.Instr.{Instr}
use Rattle.ar_syntax.specs.declared.members.Member.TheOpen as member
use Rattle.ar_syntax.specs.declared.members.Part.{Part}
use Rattle.ar_syntax.specs.declared.paths.Path.{Path}
use Rattle.domains.specs.Domains.{Holds}
use Rattle.domains.specs.declared.Domain.{Domain}
use Rattle.domains.specs.declared.Value.{Value}
use Rattle.typed_expr.specs.declared.expr.ValueKind.{ValueKind}
use Rattle.class_table.specs.Declaring.{MemberForm}
use Rattle.ar_base.specs.Numbers.{NameId}
use Rattle.ar_syntax.specs.declared.members.TypeForm.{TypeForm}
use Rattle.class_table.specs.Members.{MemberKind, Variable, Parameter}
use Rattle.hierarchy.specs.TypeDomains.{HasDomain}
use Rattle.hierarchy.specs.Models.{RootedModel}
use Rattle.hierarchy.specs.Units.{UnitPath, Thing, kind_at}
use Rattle.hierarchy.specs.Walks.{Finds, PassesTest, thing, is_variable, is_event}
use Rattle.hierarchy.specs.Listing.{forms_at}
use Rattle.hierarchy.specs.Settings.{Attribute, in_force, is_state_variable, is_flow_variable}
use Rattle.written_forms.specs.Operands.{level_of, OfKind}
use Rattle.written_forms.specs.Wrong.{IsMisnamed, IsMistyped}
use Rattle.written_forms.specs.Parts.{InstrForm}
use Rattle.written_forms.specs.Breaches.{MisnamesItself, MistypesItself, MisplacedInAction, MisplacedInAssertion}
use Rattle.source_meaning.specs.Means.{ValueOf}
use Rattle.source_meaning.specs.Kinds.{HasKindAt}
use Rattle.source_meaning.specs.Tested.{InAction, InAssertion, InSome, Scope, Everything, IsReadable, Tested, MayName, NamesVariable}

-- the path, read in the unit u, names nothing of the kind
abbrev pub FindsNone : RootedModel → (MemberKind → Bool) → UnitPath → Path → Type 0
FindsNone m test u p = (t : Thing) → Finds m test u p t → ⊥

-- L10

-- the member is a transition or synchronisation of the event of this name, which stands here
pub data IsWayOf : MemberForm → NameId → Place → Type 0 where
  local : {x : NameId} {at : Place} {guard : RawExpr} {action : Instr} → IsWayOf (member.Local x at guard action) x at
  sync : {x : NameId} {at : Place} {parts : Vec Part Global} → IsWayOf (member.Sync x at parts) x at

-- a path that names nothing of the kind that is needed, or a transition's name that is no event of its unit
pub data BreaksNaming (m : RootedModel) (units : List UnitPath) : Place → Type 0 where
  in_expression : {u : UnitPath} {at : Place} (s : Scope) (k : ValueKind) (e : RawExpr) → Tested m units u s k e
      → IsMisnamed (MayName m u s) (level_of e) at
      → BreaksNaming m units at
  in_instruction : {u : UnitPath} {at : Place} (i : InstrForm) → IsOneOf units u → InSome m u i
      → MisnamesItself (MayName m u Everything) (NamesVariable m u) i at
      → BreaksNaming m units at
  hides : {u : UnitPath} {p : Path} → IsOneOf units u → IsOneOf (forms_at m u) (member.Hide p)
      → FindsNone m is_event u p → BreaksNaming m units p.at
  part : {u : UnitPath} (x : NameId) (at : Place) (parts : Vec Part Global) (p : Part) → IsOneOf units u
      → IsOneOf (forms_at m u) (member.Sync x at parts) → IsOneOf parts.items p
      → FindsNone m is_event u p.event → BreaksNaming m units p.event.at
  way : {u : UnitPath} {at : Place} (f : MemberForm) (x : NameId) → IsOneOf units u → IsOneOf (forms_at m u) f
      → IsWayOf f x at
      → (PassesTest m is_event (thing u x.n) → ⊥) → BreaksNaming m units at

-- L11

-- an expression of the wrong kind, or a right path of a `:=:` whose kind is not that of the left one
pub data BreaksKinds (m : RootedModel) (units : List UnitPath) : Place → Type 0 where
  in_expression : {u : UnitPath} {at : Place} (s : Scope) (k : ValueKind) (e : RawExpr) → Tested m units u s k e
      → IsMistyped (HasKindAt m u) (OfKind k) e at
      → BreaksKinds m units at
  in_instruction : {u : UnitPath} {at : Place} (i : InstrForm) → IsOneOf units u → InSome m u i
      → MistypesItself (HasKindAt m u) i at → BreaksKinds m units at

-- L12

-- the type of a variable or a parameter
abbrev pub type_of : MemberKind → Option TypeForm
type_of (Variable t settings) = Some t
type_of (Parameter t e) = Some t
type_of _ = None

-- a value in force that is outside its domain
pub record BreaksValue (m : RootedModel) (units : List UnitPath) (p : Place) : Type 0 where
  pub thing : Thing
  pub has_value : IsReadable m units thing
  pub attribute : Attribute
  pub in_force : in_force m thing ≡ Some attribute
  pub value : Value
  pub is_value : ValueOf m thing value
  pub member : MemberKind
  pub is : kind_at m thing.unit thing.name ≡ Some member
  pub type : TypeForm
  pub is_type : type_of member ≡ Some type
  pub domain : Domain
  pub is_domain : HasDomain m.declared type domain
  pub outside : Holds domain value → ⊥
  pub place : p ≡ attribute.value.at

-- L13

-- the path names a variable that does not pass the test
pub record IsNot (m : RootedModel) (test : MemberKind → Bool) (u : UnitPath) (p : Path) : Type 0 where
  pub thing : Thing
  pub finds : Finds m is_variable u p thing
  pub member : MemberKind
  pub is : kind_at m thing.unit thing.name ≡ Some member
  pub fails : test member ≡ false

-- the path names a variable that passes the test
pub record Is (m : RootedModel) (test : MemberKind → Bool) (u : UnitPath) (p : Path) : Type 0 where
  pub thing : Thing
  pub finds : Finds m test u p thing

-- an action assigns what is no state variable or holds a `:=:`, or an assertion assigns or ties what is no flow
pub data BreaksTargets (m : RootedModel) (units : List UnitPath) : Place → Type 0 where
  in_action : {u : UnitPath} {at : Place} (i : InstrForm) → IsOneOf units u → InAction m u i
      → MisplacedInAction (IsNot m is_state_variable u) i at
      → BreaksTargets m units at
  in_assertion : {u : UnitPath} {at : Place} (i : InstrForm) → IsOneOf units u → InAssertion m u i
      → MisplacedInAssertion (IsNot m is_flow_variable u) (Is m is_flow_variable u) i at → BreaksTargets m units at

-- the rules that are tested when names are bound
abbrev pub name_rules : List ℕ
name_rules = 10 ∷ 11 ∷ 12 ∷ 13 ∷ []

-- rule n is broken at this place, where the main block has these units
pub data BreaksNameRule (m : RootedModel) (units : List UnitPath) : ℕ → Place → Type 0 where
  l10 : {p : Place} → BreaksNaming m units p → BreaksNameRule m units 10 p
  l11 : {p : Place} → BreaksKinds m units p → BreaksNameRule m units 11 p
  l12 : {p : Place} → BreaksValue m units p → BreaksNameRule m units 12 p
  l13 : {p : Place} → BreaksTargets m units p → BreaksNameRule m units 13 p
