-- Where a tree breaks a rule of names, of kinds or of targets, part by part.
use Rattle.std.specs.Prelude.{◌≡◌, List, Some, Vec}
use Rattle.std.specs.Global.{Global}
use Rattle.ar_base.specs.Lists.{IsOneOf}
use Rattle.ar_base.specs.Numbers.{NameId}
use Rattle.ar_base.specs.declared.places.Place.{Place}
use Rattle.ar_syntax.specs.declared.expressions.RawExpr.{RawExpr}
use Rattle.ar_syntax.specs.declared.instructions.Instr.{Instr, out-Instr}
use Rattle.ar_syntax.specs.declared.members.Member.TheOpen as member
use Rattle.ar_syntax.specs.declared.members.Part.{Part}
use Rattle.ar_syntax.specs.declared.members.TypeForm.{TypeForm}
use Rattle.ar_syntax.specs.declared.paths.Path.{Path}
use Rattle.typed_expr.specs.declared.expr.ValueKind.{ValueKind}
use Rattle.typed_expr.specs.declared.expr.ValueKind.TheVariants.{Truth}
use Rattle.written_forms.specs.Operands.{level_of, OfKind}
use Rattle.written_forms.specs.Wrong.{IsMisnamed, IsMistyped}
use Rattle.written_forms.specs.Parts.{InstrForm}
use Rattle.written_forms.specs.PartsInside.{BreaksInside}
use Rattle.written_forms.specs.Breaches.{MisnamesItself, MistypesItself, MisplacedInAction, MisplacedInAssertion}
use Rattle.class_table.specs.Declaring.{MemberForm}
use Rattle.class_table.specs.Members.{Observer}
use Rattle.hierarchy.specs.Models.{RootedModel}
use Rattle.hierarchy.specs.Units.{UnitPath, Thing, kind_at}
use Rattle.hierarchy.specs.Walks.{PassesTest, thing, is_event}
use Rattle.hierarchy.specs.Listing.{forms_at, variables, parameters, observers}
use Rattle.hierarchy.specs.Settings.{Attribute, in_force, is_state_variable, is_flow_variable}
use Rattle.source_meaning.specs.Means.{is_valued}
use Rattle.source_meaning.specs.Kinds.{kind_of_type, IsOfKind, HasKindAt}
use Rattle.source_meaning.specs.Tested.{Scope, Everything, scope_of, MayName, NamesVariable}
use Rattle.source_meaning.specs.Rules.{FindsNone, IsNot, Is}
use Rattle.bind_names.specs.declared.breaches.Rule.{Rule}
use Rattle.bind_names.specs.declared.breaches.Rule.TheVariants.{Names, Kinds, Targets}

-- the expression, which stands in the unit u in this scope and of which this kind is wanted, breaks the rule at the
-- place
abbrev pub BreaksExpression : RootedModel → Rule → UnitPath → Scope → ValueKind → RawExpr → Place → Type 0
BreaksExpression m Names u s k e at = IsMisnamed (MayName m u s) (level_of e) at
BreaksExpression m Kinds u s k e at = IsMistyped (HasKindAt m u) (OfKind k) e at
BreaksExpression m Targets u s k e at = ⊥

-- an instruction in an action of the unit u breaks the rule by itself
abbrev pub BreaksAction : RootedModel → Rule → UnitPath → InstrForm → Place → Type 0
BreaksAction m Names u = MisnamesItself (MayName m u Everything) (NamesVariable m u)
BreaksAction m Kinds u = MistypesItself (HasKindAt m u)
BreaksAction m Targets u = MisplacedInAction (IsNot m is_state_variable u)

-- the same in an assertion
abbrev pub BreaksAssertion : RootedModel → Rule → UnitPath → InstrForm → Place → Type 0
BreaksAssertion m Names u = MisnamesItself (MayName m u Everything) (NamesVariable m u)
BreaksAssertion m Kinds u = MistypesItself (HasKindAt m u)
BreaksAssertion m Targets u = MisplacedInAssertion (IsNot m is_flow_variable u) (Is m is_flow_variable u)

-- the path, which stands here, names no event
pub record IsNoEvent (m : RootedModel) (u : UnitPath) (p : Path) (at : Place) : Type 0 where
  pub none : FindsNone m is_event u p
  pub place : at ≡ p.at

-- a part of a synchronisation names no event
pub record PartNamesNoEvent (m : RootedModel) (u : UnitPath) (parts : List Part) (at : Place) : Type 0 where
  pub part : Part
  pub is_one : IsOneOf parts part
  pub no_event : IsNoEvent m u part.event at

-- the name, which stands here, is no event of the unit
pub record IsNoOwnEvent (m : RootedModel) (u : UnitPath) (x : NameId) (here at : Place) : Type 0 where
  pub not : PassesTest m is_event (thing u x.n) → ⊥
  pub place : at ≡ here

-- the member names no event where an event is needed
pub data MisnamesEvent (m : RootedModel) (u : UnitPath) : MemberForm → Place → Type 0 where
  hides : {p : Path} {at : Place} → IsNoEvent m u p at → MisnamesEvent m u (member.Hide p) at
  part : {x : NameId} {here : Place} {parts : Vec Part Global} {at : Place}
      → PartNamesNoEvent m u parts.items at → MisnamesEvent m u (member.Sync x here parts) at
  sync : {x : NameId} {here : Place} {parts : Vec Part Global} {at : Place}
      → IsNoOwnEvent m u x here at → MisnamesEvent m u (member.Sync x here parts) at
  local : {x : NameId} {here : Place} {guard : RawExpr} {action : Instr} {at : Place}
      → IsNoOwnEvent m u x here at → MisnamesEvent m u (member.Local x here guard action) at

-- only the rule of names speaks of events
abbrev pub BreaksEvent : RootedModel → Rule → UnitPath → MemberForm → Place → Type 0
BreaksEvent m Names u f at = MisnamesEvent m u f at
BreaksEvent m Kinds u f at = ⊥
BreaksEvent m Targets u f at = ⊥

-- the member of the unit u breaks the rule at the place
pub data BreaksMember (m : RootedModel) (rule : Rule) (u : UnitPath) : MemberForm → Place → Type 0 where
  event : {f : MemberForm} {at : Place} → BreaksEvent m rule u f at → BreaksMember m rule u f at
  guard : {x : NameId} {here at : Place} {guard : RawExpr} {action : Instr}
      → BreaksExpression m rule u Everything Truth guard at
      → BreaksMember m rule u (member.Local x here guard action) at
  action : {x : NameId} {here at : Place} {guard : RawExpr} {action : Instr}
      → BreaksInside (BreaksAction m rule u) (out-Instr action) at
      → BreaksMember m rule u (member.Local x here guard action) at
  assertion : {at : Place} {i : Instr}
      → BreaksInside (BreaksAssertion m rule u) (out-Instr i) at → BreaksMember m rule u (member.Assert i) at

-- one of these members does so
pub record BreaksOneMember (m : RootedModel) (rule : Rule) (u : UnitPath) (forms : List MemberForm) (at : Place) : Type
    0 where
  pub form : MemberForm
  pub is_one : IsOneOf forms form
  pub breaks : BreaksMember m rule u form at

-- a member of some unit does so
pub record BreaksUnit (m : RootedModel) (units : List UnitPath) (rule : Rule) (at : Place) : Type 0 where
  pub unit : UnitPath
  pub is_unit : IsOneOf units unit
  pub breaks : BreaksOneMember m rule unit (forms_at m unit) at

-- the value in force of the thing breaks the rule at the place
pub record BreaksValueInForce (m : RootedModel) (rule : Rule) (t : Thing) (at : Place) : Type 0 where
  pub attribute : Attribute
  pub in_force : in_force m t ≡ Some attribute
  pub kind : ValueKind
  pub is_kind : IsOfKind m t kind
  pub breaks : BreaksExpression m rule attribute.unit (scope_of t.name attribute.setting) kind attribute.value at

-- the same of a parameter, where its value is read
pub record BreaksParameter (m : RootedModel) (rule : Rule) (t : Thing) (at : Place) : Type 0 where
  pub valued : PassesTest m is_valued t
  pub breaks : BreaksValueInForce m rule t at

-- the expression of the observer breaks the rule at the place
pub record BreaksObserver (m : RootedModel) (rule : Rule) (t : Thing) (at : Place) : Type 0 where
  pub type : TypeForm
  pub written : RawExpr
  pub is : kind_at m t.unit t.name ≡ Some (Observer type written)
  pub kind : ValueKind
  pub is_kind : kind_of_type m type ≡ Some kind
  pub breaks : BreaksExpression m rule t.unit Everything kind written at

-- one of these things has P at the place
pub record BreaksThing (things : List Thing) (P : Thing → Place → Type 0) (at : Place) : Type 0 where
  pub thing : Thing
  pub is_one : IsOneOf things thing
  pub breaks : P thing at

-- the tree breaks the rule at the place
pub data BreaksTree (m : RootedModel) (units : List UnitPath) (rule : Rule) (at : Place) : Type 0 where
  variable : BreaksThing (variables m units) (BreaksValueInForce m rule) at → BreaksTree m units rule at
  parameter : BreaksThing (parameters m units) (BreaksParameter m rule) at → BreaksTree m units rule at
  observer : BreaksThing (observers m units) (BreaksObserver m rule) at → BreaksTree m units rule at
  unit : BreaksUnit m units rule at → BreaksTree m units rule at
