-- What it is that variables, assertions and observers by numbers are those of a tree.
use Rattle.std.specs.Prelude.{◌≡◌, ◌<◌, ℕ, false, List, length}
use Rattle.std.specs.List.{flat_map}
use Rattle.ar_base.specs.Lists.{IsOneOf, Along}
use Rattle.domains.specs.Domains.{IsDomain, Holds, values_of}
use Rattle.domains.specs.declared.Value.{Value}
use Rattle.typed_expr.specs.declared.expr.Expr.{Expr}
use Rattle.ar_meaning.specs.Systems as s
use Rattle.ar_meaning.specs.FlatOf.{IsNumber}
use Rattle.ar_meaning.specs.Image.{Expr_renames, Assign_renames}
use Rattle.gts_core.specs.Bound.{assigns_of_act, places_of_act}
use Rattle.domains.specs.SameInside.{IsSameDomain}
use Rattle.gts_core.specs.View.{numbered}
use Rattle.gts_core.specs.declared.bound.Act.{Act, out-Act}
use Rattle.gts_core.specs.declared.system.Observer.{Observer}
use Rattle.gts_core.specs.declared.system.Variable.{Variable}
use Rattle.hierarchy.specs.Models.{RootedModel}
use Rattle.hierarchy.specs.Units.{UnitPath, Thing}
use Rattle.hierarchy.specs.Listing.{variables}
use Rattle.hierarchy.specs.Listing as all
use Rattle.hierarchy.specs.Paths.{thing_path}
use Rattle.hierarchy.specs.declared.tree.Tree.{Tree}
use Rattle.hierarchy.specs.declared.tree.VarNode.{VarNode}
use Rattle.source_meaning.specs.Acts.{Placed, assigns_of, places_of}
use Rattle.source_meaning.specs.Numbering.{HasObserverKind}
use Rattle.source_meaning.specs.Systems.{IsVariable, AreAsserted, IsObserver}
use Rattle.bind_names.specs.Typed.{IsTypedIn, IsSoundIn, IsSymbolIn}

-- the variable by numbers is that of the tree
pub record IsBoundVariable (m : RootedModel) (units : List UnitPath) (t : Thing) (x : Variable) : Type 0 where
  pub meaning : s.Variable Thing
  pub is : IsVariable m units t meaning
  pub unit : meaning.unit ≡ x.unit.n
  pub domain : meaning.domain ≡ values_of x.domain
  pub state : meaning.is_state ≡ x.is_state
  pub value : meaning.value ≡ x.value
  pub path : x.path ≡ thing_path m t

-- the variable has the unit, the domain and the sort of the tree's node, and a value of the domain, whose symbols are
-- the model's
pub record IsSoundVariable (tree : Tree) (d : VarNode) (x : Variable) : Type 0 where
  pub unit : x.unit.n < length tree.units.items
  pub domain : IsSameDomain d.domain x.domain
  pub state : x.is_state ≡ d.is_state
  pub is_domain : IsDomain x.domain
  pub symbols : (v : Value) → Holds x.domain v → IsSymbolIn tree v
  pub value : Holds x.domain x.value

-- the variables are those of the tree, item by item
pub record AreBoundVariables (m : RootedModel) (units : List UnitPath) (tree : Tree) (xs : List Variable) : Type 0 where
  pub are : Along (IsBoundVariable m units) (variables m units) xs
  pub sound : Along (IsSoundVariable tree) tree.variables.items xs

-- the instructions have the assignments of the tree's assertions, one after the other
pub record AreBoundAssertions (m : RootedModel) (units : List UnitPath) (tree : Tree) (acts : List Act) : Type 0 where
  pub placed : List Placed
  pub asserted : AreAsserted m (all.assertions m units) placed
  pub numbers : Along (Assign_renames (IsNumber (variables m units))) (assigns_of placed) (flat_map assigns_of_act acts)
  pub places : flat_map places_of_act acts ≡ places_of placed
  pub sound : (a : Act) → IsOneOf acts a → IsSoundIn tree false (out-Act a)

-- the observer by numbers is that of the tree
pub record IsBoundObserver (m : RootedModel) (units : List UnitPath) (tree : Tree) (t : Thing) (o : Observer) : Type
    0 where
  pub meaning : Expr Thing
  pub is : IsObserver m t meaning
  pub numbers : Expr_renames (IsNumber (variables m units)) meaning (numbered o.value)
  pub kind : HasObserverKind m t o
  pub path : o.path ≡ thing_path m t
  pub typed : IsTypedIn tree o.value o.kind
