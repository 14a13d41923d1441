-- Trees, gates and an operand in another order of events.
use Rattle.std.specs.Prelude.{◌≡◌, ◌≤◌, ℕ, Bool, List, length, map}
use Rattle.std.specs.List.{All}
use Rattle.ar_base.specs.Lists.{Stands, IsOneOf, Along}
use Rattle.ar_base.specs.NumbersInside.{EventId}
use Rattle.eq_core.specs.Gates.{Operand, EventIs, Gate}
use Rattle.eq_core.specs.Ordered.{AreOrdered}
use Rattle.eq_core.specs.ValuesInside.{IsBelow}
use Rattle.eq_core.specs.Views.{gate_of, operand_of}
use Rattle.eq_core.specs.Cones.{InGateCone}
use Rattle.diagram_steps.specs.declared.trees.NumberedTree.{NumberedTree}
use Rattle.diagram_steps.specs.Trees.{TreeHasEvent}
use Rattle.mode_diagrams.specs.Trees.{AreNumbered, AreApart}
use Rattle.mode_diagrams.specs.Costs.{HaveDifferentEvents}
use Rattle.mode_diagrams.specs.Numbers.{HasFewEdges}
use Rattle.event_order.specs.Renumbered.{IsNamed, AreRenumbered, IsRenamed, IsRenamedGate}
use Rattle.event_order.specs.declared.ordering.Ordered.{Ordered}

-- the operand is the event or its opposite, or one of a gate that it rests on is
pub data RestsOn (gates : List Gate) (root : Operand) (e : ℕ) : Type 0 where
  own : {sign : Bool} → root ≡ EventIs e sign → RestsOn gates root e
  inside : {g : ℕ} {gate : Gate} {sign : Bool} → InGateCone gates root g → Stands gates g gate
      → IsOneOf gate.operands (EventIs e sign) → RestsOn gates root e

-- each event that one of the trees has and on which the operand rests has a new number
pub record HasAllNames (names : List EventId) (trees : List NumberedTree) (gates : List Gate) (root : Operand)
    : Type 0 where
  pub each : (e k : ℕ) (tree : NumberedTree) → RestsOn gates root e → Stands trees k tree → TreeHasEvent tree e
      → IsNamed names e

-- the event is one of a tree with an event on which the operand rests
pub record IsOfUse (trees : List NumberedTree) (gates : List Gate) (root : Operand) (e : ℕ) : Type 0 where
  pub place : ℕ
  pub tree : NumberedTree
  pub stands : Stands trees place tree
  pub has : TreeHasEvent tree e
  pub used : ℕ
  pub has_used : TreeHasEvent tree used
  pub rests : RestsOn gates root used

-- each event that has a new number is one of a tree with an event on which the operand rests
pub record HasNoOtherNames (names : List EventId) (trees : List NumberedTree) (gates : List Gate) (root : Operand)
    : Type 0 where
  pub each : (e : ℕ) → IsNamed names e → IsOfUse trees gates root e

-- the gates and operand of o in the words of the definitions
abbrev pub gates_of : Ordered → List Gate
gates_of o = map gate_of o.gates.items

abbrev pub root_of : Ordered → Operand
root_of o = operand_of o.root

-- o has the trees with events on which the operand rests, and no others, and the gates and the operand, over new numbers of
-- events
pub record IsOrderedOf (trees : List NumberedTree) (gates : List Gate) (root : Operand) (o : Ordered) : Type 0 where
  pub trees_are : AreRenumbered o.names.items trees o.trees.items
  pub names_are : HasAllNames o.names.items trees gates root
  pub no_others : HasNoOtherNames o.names.items trees gates root
  pub gates_are : Along (IsRenamedGate o.names.items) gates (gates_of o)
  pub root_is : IsRenamed o.names.items root (root_of o)

-- what those who draw over trees and gates ask for
pub record IsDrawable (o : Ordered) : Type 0 where
  pub few : length o.trees.items ≤ 4294967295
  pub numbered : AreNumbered o.trees.items
  pub apart : AreApart o.trees.items
  pub different : HaveDifferentEvents o.trees.items
  pub small : All HasFewEdges o.trees.items
  pub ordered : AreOrdered (gates_of o)
  pub root_in : IsBelow (length (gates_of o)) (root_of o)
