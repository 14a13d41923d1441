-- What it is that a tree is that of a main block: its numbers stand for the items of the lists of units and things. And
-- what a look-up answers.
use Rattle.std.specs.Prelude.{◌≡◌, ℕ, ◌==◌, ◌<◌, ◌≤◌, ◌^◌, if◌then◌else◌, length, Bool, true, false, List, [], ◌∷◌, Option, Some, None}
use Rattle.std.specs.List.Sorted.{IsNonDecreasingBy}
use Rattle.ar_base.specs.Counts.{limit_of}
use Rattle.ar_base.specs.declared.counts.Count.TheVariants.{Units, Variables, Events}
use Rattle.ar_base.specs.Lists.{Stands, Along}
use Rattle.ar_base.specs.Numbers.{NameId, BodyId}
use Rattle.ar_base.specs.NumbersInside.{UnitId}
use Rattle.ar_syntax.specs.declared.expressions.RawExpr.{RawExpr}
use Rattle.ar_syntax.specs.declared.members.Setting.{Setting}
use Rattle.ar_syntax.specs.declared.members.TypeForm.{TypeForm}
use Rattle.ar_syntax.specs.declared.members.TypeForm.TheVariants as form
use Rattle.ar_syntax.specs.declared.paths.PathStart.{PathStart}
use Rattle.domains.specs.declared.Domain.{Domain}
use Rattle.class_table.specs.Declaring.{Declared}
use Rattle.class_table.specs.Members.{Site, NamedMember, MemberKind, Variable, Parameter, Kept, Alias}
use Rattle.class_table.specs.declared.tables.Classes.{Classes}
use Rattle.hierarchy.specs.Models.{RootedModel}
use Rattle.hierarchy.specs.ModelsInside.{IsKeptTable}
use Rattle.hierarchy.specs.Units.{UnitLevel, UnitPath, Thing, body_of, set_at_of, name_at}
use Rattle.hierarchy.specs.Walks.{Reaches, IsUnitAt, IsThingAt}
use Rattle.hierarchy.specs.WalksInside.{LeadsFrom}
use Rattle.hierarchy.specs.Listing.{AreUnits, is_inner, variables, parameters, events, observers}
use Rattle.hierarchy.specs.Settings.{in_force, is_state}
use Rattle.hierarchy.specs.Settings as s
use Rattle.hierarchy.specs.declared.outline.Outline.{Outline}
use Rattle.hierarchy.specs.declared.tree.Source.{Source}
use Rattle.hierarchy.specs.declared.tree.Attribute.{Attribute}
use Rattle.hierarchy.specs.declared.tree.UnitNode.{UnitNode}
use Rattle.hierarchy.specs.declared.tree.MemNode.{MemNode}
use Rattle.hierarchy.specs.declared.tree.VarNode.{VarNode}
use Rattle.hierarchy.specs.declared.tree.ParNode.{ParNode}
use Rattle.hierarchy.specs.declared.tree.Tree.{Tree}
use Rattle.hierarchy.specs.TypeDomains.{HasDomain}

-- Units

-- the number of the unit above, which the main block has none of
pub data IsOwner (units : List UnitPath) : UnitPath → Option UnitId → Type 0 where
  of_main : IsOwner units [] None
  of_unit : {l : UnitLevel} {above : UnitPath} {id : UnitId} → Stands units id.n above
      → IsOwner units (l ∷ above) (Some id)

-- the name of the unit, of which the main block has none
abbrev pub IsNameOfUnit : UnitPath → NameId → Type 0
IsNameOfUnit [] x = Unit {0}
IsNameOfUnit (l ∷ above) x = x.n ≡ l.name

-- the number under a name
abbrev pub entry_in : List (NameId × UnitId) → ℕ → Option ℕ
entry_in [] x = None
entry_in (e ∷ es) x = if e.0.n == x then Some e.1.n else entry_in es x

-- the name is an alias
abbrev pub is_alias : MemberKind → Bool
is_alias (Alias p) = true
is_alias _ = false

-- in the unit u the name x is the unit v, and what gives it passes the test
pub record IsUnitIn (m : RootedModel) (test : MemberKind → Bool) (u : UnitPath) (x : ℕ) (v : UnitPath) : Type 0 where
  pub given : NamedMember
  pub is : name_at m u x ≡ Some given
  pub passes : test given.kind ≡ true
  pub leads : LeadsFrom m u x (Reaches v)

-- the entries are the names of u that are units by what passes the test, each with the number of its unit, in the order
-- of the names' numbers
pub record AreNames (m : RootedModel) (units : List UnitPath) (test : MemberKind → Bool) (u : UnitPath)
    (entries : List (NameId × UnitId)) : Type 0 where
  pub found : (x n : ℕ) → entry_in entries x ≡ Some n → (v : UnitPath) × Stands units n v × IsUnitIn m test u x v
  pub absent : (x : ℕ) (v : UnitPath) → entry_in entries x ≡ None → IsUnitIn m test u x v → ⊥
  pub ordered : IsNonDecreasingBy (λ (e : NameId × UnitId). e.0.n) entries

-- the declaration whose settings hold in the unit, as the code keeps it
pub data IsSetAt : Option Site → Option (BodyId × ℕ) → Type 0 where
  none : IsSetAt None None
  some : {site : Site} {at : BodyId × ℕ} → at.0.n ≡ site.body → at.1 ≡ site.place → IsSetAt (Some site) (Some at)

-- the outline is that of the unit
pub record IsOutline (m : RootedModel) (units : List UnitPath) (u : UnitPath) (d : Outline) : Type 0 where
  pub owner : IsOwner units u d.owner
  pub name : IsNameOfUnit u d.name
  pub body : d.body.n ≡ body_of m u
  pub set_at : IsSetAt (set_at_of u) d.set_at

-- the table keeps the model, which keeps the rules over the whole text, and the outlines are those of its units
pub record AreOutlines (m : RootedModel) (units : List UnitPath) (classes : Classes) (outlines : List Outline) : Type
    0 where
  pub table : IsKeptTable m classes
  pub are_units : AreUnits m units
  pub along : Along (IsOutline m units) units outlines

-- the node is that of the unit
pub record IsUnitNode (m : RootedModel) (units : List UnitPath) (u : UnitPath) (d : UnitNode) : Type 0 where
  pub owner : IsOwner units u d.owner
  pub name : IsNameOfUnit u d.name
  pub body : d.body.n ≡ body_of m u
  pub inner : AreNames m units is_inner u d.inner.items
  pub aliases : AreNames m units is_alias u d.aliases.items

-- Things

-- the place in code is this one
pub record IsSource (site : Site) (setting : Option ℕ) (source : Source) : Type 0 where
  pub body : source.body.n ≡ site.body
  pub member : source.member ≡ site.place
  pub setting_is : source.setting ≡ setting

-- the value in code is read in this unit, and stands there
pub record IsAttribute (units : List UnitPath) (a : s.Attribute) (b : Attribute) : Type 0 where
  pub unit : Stands units b.from.n a.unit
  pub source : IsSource a.site a.setting b.source

-- the value in force of the thing
pub record HasAttribute (m : RootedModel) (units : List UnitPath) (t : Thing) (b : Attribute) : Type 0 where
  pub attribute : s.Attribute
  pub in_force : in_force m t ≡ Some attribute
  pub is : IsAttribute units attribute b

-- the node is that of the thing, which is given so
pub record IsThingNode (m : RootedModel) (units : List UnitPath) (t : Thing) (g : NamedMember) (d : MemNode) : Type 0 where
  pub unit : Stands units d.unit.n t.unit
  pub name : d.name.n ≡ t.name
  pub is : name_at m t.unit t.name ≡ Some g
  pub source : IsSource g.site None d.source

-- the same of an event or an observer
pub record IsPlainNode (m : RootedModel) (units : List UnitPath) (t : Thing) (d : MemNode) : Type 0 where
  pub given : NamedMember
  pub node : IsThingNode m units t given d

-- the node is that of the variable
pub record IsVariableNode (m : RootedModel) (units : List UnitPath) (t : Thing) (d : VarNode) : Type 0 where
  pub given : NamedMember
  pub node : IsThingNode m units t given d.node
  pub type : TypeForm
  pub settings : List Setting
  pub is : given.kind ≡ Variable type settings
  pub domain : HasDomain m.declared type d.domain
  pub state : d.is_state ≡ is_state settings
  pub value : HasAttribute m units t d.value

-- the domain of a parameter, which it has none of where it takes every whole number or is a parameter Real
pub data HasParameterDomain (d : Declared) : MemberKind → Option Domain → Type 0 where
  domain : {type : TypeForm} {e : RawExpr} {v : Domain} → HasDomain d type v
      → HasParameterDomain d (Parameter type e) (Some v)
  integer : {e : RawExpr} → HasParameterDomain d (Parameter form.Integer e) None
  kept : HasParameterDomain d Kept None

-- a parameter Real has no value that is read
abbrev pub HasAttributeOf : RootedModel → List UnitPath → Thing → MemberKind → Attribute → Type 0
HasAttributeOf m units t Kept b = Unit {0}
HasAttributeOf m units t what b = HasAttribute m units t b

-- the node is that of the parameter
pub record IsParameterNode (m : RootedModel) (units : List UnitPath) (t : Thing) (d : ParNode) : Type 0 where
  pub given : NamedMember
  pub node : IsThingNode m units t given d.node
  pub domain : HasParameterDomain m.declared given.kind d.domain
  pub value : HasAttributeOf m units t given.kind d.value

-- The tree

-- the tree is that of the model, whose units are these, within the limits
pub record IsTreeOf (m : RootedModel) (units : List UnitPath) (tree : Tree) : Type 0 where
  pub table : IsKeptTable m tree.classes
  pub are_units : AreUnits m units
  pub units_are : Along (IsUnitNode m units) units tree.units.items
  pub variables_are : Along (IsVariableNode m units) (variables m units) tree.variables.items
  pub parameters_are : Along (IsParameterNode m units) (parameters m units) tree.parameters.items
  pub events_are : Along (IsPlainNode m units) (events m units) tree.events.items
  pub observers_are : Along (IsPlainNode m units) (observers m units) tree.observers.items
  pub parameters_few : length tree.parameters.items < 2 ^ 32
  pub observers_few : length tree.observers.items < 2 ^ 32
  pub units_few : length tree.units.items ≤ limit_of Units
  pub variables_few : length tree.variables.items ≤ limit_of Variables
  pub events_few : length tree.events.items ≤ limit_of Events

-- Look-ups

-- the number of the unit that the names lead to, or none where they lead to no unit
abbrev pub AnswersUnit : RootedModel → List UnitPath → UnitPath → PathStart → List ℕ → Option ℕ → Type 0
AnswersUnit m units u start names None = (v : UnitPath) → IsUnitAt m u start names v → ⊥
AnswersUnit m units u start names (Some n) = (v : UnitPath) × Stands units n v × IsUnitAt m u start names v

-- the number, among these things, of the one that the names name and that passes the test, or none where they name no
-- such thing
abbrev pub AnswersThing : RootedModel → List Thing → (MemberKind → Bool) → UnitPath → PathStart → List ℕ → Option ℕ
    → Type 0
AnswersThing m things test u start names None = (t : Thing) → IsThingAt m test u start names t → ⊥
AnswersThing m things test u start names (Some n) = (t : Thing) × Stands things n t × IsThingAt m test u start names t
