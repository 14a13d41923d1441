-- The values of the parameters and variables of a tree.
use Rattle.std.specs.Prelude.{◌≡◌, ◌<◌, ℕ, List, take, Option, Result, Ok, Err, Some, None}
use Rattle.ar_base.specs.Lists.{Along, Stands, IsOneOf}
use Rattle.ar_base.specs.declared.places.Place.{Place}
use Rattle.ar_syntax.specs.declared.members.TypeForm.{TypeForm}
use Rattle.ar_syntax.specs.declared.paths.Path.{Path}
use Rattle.domains.specs.Domains.{Holds}
use Rattle.domains.specs.declared.Domain.{Domain}
use Rattle.domains.specs.declared.Value.{Value}
use Rattle.typed_expr.specs.Kinds.{kind_of}
use Rattle.class_table.specs.Earliest.{IsEarliest}
use Rattle.class_table.specs.Members.{MemberKind}
use Rattle.hierarchy.specs.Models.{RootedModel}
use Rattle.hierarchy.specs.Units.{UnitPath, Thing, kind_at}
use Rattle.hierarchy.specs.Walks.{Finds, PassesTest}
use Rattle.hierarchy.specs.Listing.{variables, parameters}
use Rattle.hierarchy.specs.Settings.{Attribute, in_force}
use Rattle.hierarchy.specs.TypeDomains.{HasDomain}
use Rattle.hierarchy.specs.declared.tree.ParNode.{ParNode}
use Rattle.hierarchy.specs.declared.tree.VarNode.{VarNode}
use Rattle.hierarchy.specs.declared.tree.Tree.{Tree}
use Rattle.source_meaning.specs.Means.{is_valued, ValueOf}
use Rattle.source_meaning.specs.Kinds.{IsOfKind}
use Rattle.source_meaning.specs.Tested.{MayName, scope_of}
use Rattle.source_meaning.specs.Rules.{BreaksNaming, BreaksKinds, BreaksValue, type_of}
use Rattle.bind_names.specs.declared.all_values.Values.{Values}

-- each path that is tested names what it is to name, and each expression has the kind that is wanted of it
pub record AreNamesKept (m : RootedModel) (units : List UnitPath) : Type 0 where
  pub naming : (p : Place) → BreaksNaming m units p → ⊥
  pub kinds : (p : Place) → BreaksKinds m units p → ⊥

-- Values

-- the value of the thing, which is of the thing's kind
pub record IsValue (m : RootedModel) (t : Thing) (v : Value) : Type 0 where
  pub value : ValueOf m t v
  pub kind : IsOfKind m t (kind_of v)

-- the value of the parameter, where it has one that is read
pub record IsParameterValue (m : RootedModel) (t : Thing) (v : Value) : Type 0 where
  pub value : PassesTest m is_valued t → IsValue m t v

-- the value is in the domain, where there is one
abbrev pub HoldsIn : Option Domain → Value → Type 0
HoldsIn None v = Unit {0}
HoldsIn (Some d) v = Holds d v

-- these are the values of all parameters, and the values of the init and reset of all variables, each in its domain
pub record AreValues (m : RootedModel) (units : List UnitPath) (tree : Tree) (values : Values) : Type 0 where
  pub parameters_are : Along (IsParameterValue m) (parameters m units) values.parameters.items
  pub variables_are : Along (IsValue m) (variables m units) values.variables.items
  pub parameters_held : Along (λ (d : ParNode) (v : Value). HoldsIn d.domain v) tree.parameters.items
      values.parameters.items
  pub variables_held : Along (λ (d : VarNode) (v : Value). Holds d.domain v) tree.variables.items values.variables.items

-- the values, where each is in its domain, or else the earliest place at which one is not
pub data IsValued (m : RootedModel) (units : List UnitPath) (tree : Tree) : Result Values Place → Type 0 where
  values : {vs : Values} → AreValues m units tree vs → IsEarliest (BreaksValue m units) None
      → IsValued m units tree (Ok vs)
  outside : {p : Place} → IsEarliest (BreaksValue m units) (Some p) → IsValued m units tree (Err p)

-- One by one

-- the values of the first n parameters
abbrev pub AreFirst : RootedModel → List UnitPath → ℕ → List Value → Type 0
AreFirst m units n vs = Along (IsParameterValue m) (take n (parameters m units)) vs

-- the parameters that the value in force of the thing may name stand before place n
pub record NamesBefore (m : RootedModel) (units : List UnitPath) (t : Thing) (n : ℕ) : Type 0 where
  pub before : (a : Attribute) (p : Path) (s : Thing) (k : ℕ) → in_force m t ≡ Some a
      → MayName m a.unit (scope_of t.name a.setting) p → Finds m is_valued a.unit p s
      → Stands (parameters m units) k s → k < n

-- the domain is that of the thing's type
pub record IsDomainAt (m : RootedModel) (t : Thing) (d : Domain) : Type 0 where
  pub member : MemberKind
  pub is : kind_at m t.unit t.name ≡ Some member
  pub type : TypeForm
  pub is_type : type_of member ≡ Some type
  pub domain : HasDomain m.declared type d

-- the value in force of the thing breaks the rule of values at the place
pub record BreaksAs (m : RootedModel) (units : List UnitPath) (t : Thing) (p : Place) : Type 0 where
  pub breaks : BreaksValue m units p
  pub thing : breaks.thing ≡ t

-- that of one of these things does so
pub record BreaksOneValue (m : RootedModel) (units : List UnitPath) (things : List Thing) (p : Place) : Type 0 where
  pub thing : Thing
  pub is_one : IsOneOf things thing
  pub breaks : BreaksAs m units thing p
