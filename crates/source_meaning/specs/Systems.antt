-- The system that a tree of units means, over the things of its units.
use Rattle.std.specs.Prelude.{◌≡◌, ℕ, Bool, List, [], ◌∷◌, ◌++◌, Some, Result, Ok, Vec}
use Rattle.std.specs.Global.{Global}
use Rattle.ar_base.specs.Lists.{Stands, IsOneOf, Along}
use Rattle.ar_base.specs.declared.faults.RuleFault.{RuleFault}
use Rattle.ar_base.specs.declared.places.Place.{Place}
use Rattle.ar_syntax.specs.declared.expressions.RawExpr.{RawExpr}
use Rattle.ar_syntax.specs.declared.instructions.Instr.{Instr, out-Instr}
use Rattle.ar_syntax.specs.declared.members.Member.TheOpen as member
use Rattle.ar_syntax.specs.declared.members.Part.{Part}
use Rattle.ar_syntax.specs.declared.members.Setting.{Setting}
use Rattle.ar_syntax.specs.declared.members.TypeForm.{TypeForm}
use Rattle.ar_syntax.specs.declared.paths.Path.{Path}
use Rattle.domains.specs.Domains.{values_of}
use Rattle.domains.specs.declared.Domain.{Domain}
use Rattle.typed_expr.specs.declared.expr.Expr.{Expr, out-Expr}
use Rattle.ar_meaning.specs.Systems.{Net, System, Transition}
use Rattle.ar_meaning.specs.Systems as s
use Rattle.ar_meaning.specs.Expand.{EventDeclaration, Member, One, Synchronises, IsExpanded}
use Rattle.ar_meaning.specs.Found.{IsAnswer}
use Rattle.class_table.specs.Declaring.{MemberForm}
use Rattle.ar_base.specs.Numbers.{NameId}
use Rattle.class_table.specs.Members.{Variable, Observer}
use Rattle.ar_base.specs.Stages.{Then, Keeps}
use Rattle.hierarchy.specs.Models.{RootedModel}
use Rattle.hierarchy.specs.Units.{UnitPath, Thing, kind_at}
use Rattle.hierarchy.specs.Walks.{Finds, is_event}
use Rattle.hierarchy.specs.Listing.{Unfolded, In, variables, events, observers, assertions, hidden_paths, ways_declared}
use Rattle.hierarchy.specs.Settings.{is_state}
use Rattle.hierarchy.specs.TypeDomains.{HasDomain}
use Rattle.written_forms.specs.Operands.{level_of}
use Rattle.source_meaning.specs.Means.{Means, ValueOf}
use Rattle.source_meaning.specs.Acts.{Placed, assigns_of, places_of, Sets}
use Rattle.source_meaning.specs.Rules.{BreaksNameRule, name_rules}

-- Variables

-- what a variable is: it stands for itself, in the unit of this number, with its domain's values and the value of its
-- init or reset
pub record IsVariable (m : RootedModel) (units : List UnitPath) (t : Thing) (x : s.Variable Thing) : Type 0 where
  pub key : x.key ≡ t
  pub unit : Stands units x.unit t.unit
  pub type : TypeForm
  pub settings : List Setting
  pub is : kind_at m t.unit t.name ≡ Some (Variable type settings)
  pub domain : Domain
  pub has_domain : HasDomain m.declared type domain
  pub values : x.domain ≡ values_of domain
  pub state : x.is_state ≡ is_state settings
  pub value : ValueOf m t x.value

-- Assertions

-- the assignments of these instructions, one after the other
pub data AreAsserted (m : RootedModel) : List (In Instr) → List Placed → Type 0 where
  none : AreAsserted m [] []
  one_and : {i : In Instr} {is : List (In Instr)} {xs ys : List Placed} → Sets m i.unit [] (out-Instr i.item) xs
      → AreAsserted m is ys → AreAsserted m (i ∷ is) (xs ++ ys)

-- Events

-- a hide clause of some unit names the event
pub record IsHidden (m : RootedModel) (units : List UnitPath) (t : Thing) : Type 0 where
  pub clause : In Path
  pub is_clause : IsOneOf (hidden_paths m units) clause
  pub names : Finds m is_event clause.unit clause.item t

-- a part by its mark and its event
pub record IsPart (m : RootedModel) (u : UnitPath) (part : Part) (p : Bool × Thing) : Type 0 where
  pub must : part.must ≡ p.0
  pub event : Finds m is_event u part.event p.1

-- what a transition or a synchronisation of the unit u is
pub data IsMember (m : RootedModel) (u : UnitPath) : MemberForm → Member (Transition Thing) Thing → Type 0 where
  local : {x : NameId} {at : Place} {guard : RawExpr} {action : Instr} {g : Expr Thing} {ps : List Placed}
      → Means m u (level_of guard) (out-Expr Thing g)
      → Sets m u [] (out-Instr action) ps
      → IsMember m u (member.Local x at guard action) (One (record { guard = g; action = assigns_of ps }))
  sync : {x : NameId} {at : Place} {parts : Vec Part Global} {ps : List (Bool × Thing)}
      → Along (IsPart m u) parts.items ps → IsMember m u (member.Sync x at parts) (Synchronises ps)

-- what an event is: it stands for itself, in the unit of this number, hidden where a hide clause names it, with its
-- members in order
pub record IsEvent (m : RootedModel) (units : List UnitPath) (t : Thing) (d : EventDeclaration (Transition Thing)
    Thing) : Type 0 where
  pub key : d.key ≡ t
  pub unit : Stands units d.unit t.unit
  pub hidden : IsAnswer d.hidden (IsHidden m units t)
  pub members : Along (IsMember m t.unit) (ways_declared m t) d.members

-- Observers

-- the expression of an observer
pub record IsObserver (m : RootedModel) (t : Thing) (e : Expr Thing) : Type 0 where
  pub type : TypeForm
  pub written : RawExpr
  pub is : kind_at m t.unit t.name ≡ Some (Observer type written)
  pub means : Means m t.unit (level_of written) (out-Expr Thing e)

-- The system

-- what the declarations of a tree say: its variables and assertions, its events as they are declared, its observers,
-- and where the targets of the assertions' assignments stand
pub record Declarations : Type 0 where
  pub model : RootedModel
  pub units : List UnitPath
  pub net : Net Thing
  pub events : List (EventDeclaration (Transition Thing) Thing)
  pub observers : List (Expr Thing)
  pub places : List Place

-- the declarations are those of these units
pub record AreOf (m : RootedModel) (units : List UnitPath) (d : Declarations) : Type 0 where
  pub model : d.model ≡ m
  pub units_are : d.units ≡ units
  pub variables : Along (IsVariable m units) (variables m units) d.net.variables
  pub placed : List Placed
  pub asserted : AreAsserted m (assertions m units) placed
  pub assertions : d.net.assertions ≡ assigns_of placed
  pub places : d.places ≡ places_of placed
  pub events : Along (IsEvent m units) (events m units) d.events
  pub observers : Along (IsObserver m) (observers m units) d.observers

-- the system has these declarations, with the ways that its events have by them
pub record HasDeclarations (d : Declarations) (sys : System Thing) : Type 0 where
  pub net : sys.net ≡ d.net
  pub events : Along (IsExpanded d.events) d.events sys.events
  pub observers : sys.observers ≡ d.observers

-- The stage

-- the rules, over a model with its units
abbrev pub name_breaks : Unfolded → ℕ → Place → Type 0
name_breaks t = BreaksNameRule t.model t.units

-- the declarations of the units
pub data Declares (t : Unfolded) : Result Declarations RuleFault → Type 0 where
  declares : {d : Declarations} → AreOf t.model t.units d → Declares t (Ok d)

-- the rules L10 to L13, then the declarations
abbrev pub Binds : Unfolded → Result Declarations RuleFault → Type 0
Binds = Then (Keeps name_rules name_breaks) Declares
