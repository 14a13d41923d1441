-- Families of least sets of operands.
use Rattle.std.specs.Prelude.{◌≡◌, ◌&&◌, ◌||◌, ℕ, suc, Bool, true, false, List, Option, None}
use Rattle.ar_base.specs.Lists.{Stands, IsOneOf}
use Rattle.ar_firing.specs.CutsInside.{UpTo}
use Rattle.zdd_nodes.specs.Families.{Family}
use Rattle.zdd_nodes.specs.Nodes.{NodeId, Stored, family, IsFamilyNumber, IsSoundStore}
use Rattle.eq_core.specs.Gates.{Operand, GateIs, Gate}
use Rattle.eq_core.specs.Values.{value_at, joint_at, values_at}
use Rattle.diagram_steps.specs.declared.trees.NumberedEdge.{NumberedEdge}
use Rattle.diagram_steps.specs.declared.trees.NumberedTree.{NumberedTree}
use Rattle.diagram_steps.specs.Trees.{edges_of}
use Rattle.mode_diagrams.specs.Trees.{IsOnPath}
use Rattle.mode_diagrams.specs.Numbers.{IsByModes}
use Rattle.mode_diagrams.specs.declared.listing.Listed.{Listed}
use Rattle.ar_firing.specs.Forest.{ModeTree}
use Rattle.firable_families.specs.FirableInside.{ListsLeastUpTo}
use Rattle.least_families.specs.Kept.{IsOperand, IsLeastOf}
use Rattle.least_families.specs.Least.{covers, AreLeast}

-- the event has an edge in one of the trees, and the set has all events on the path to the mode that it enters
pub record IsWithPathOf (trees : List NumberedTree) (set : List ℕ) (e : ℕ) : Type 0 where
  pub place : ℕ
  pub tree : NumberedTree
  pub stands : Stands trees place tree
  pub at : ℕ
  pub edge : NumberedEdge
  pub edge_stands : Stands (edges_of tree) at edge
  pub event : edge.event.n ≡ e
  pub path : (x : ℕ) → IsOnPath (edges_of tree) x (suc at) → IsOneOf set x

-- with each event the set has all events on the path to it
pub record HasPaths (trees : List NumberedTree) (set : List ℕ) : Type 0 where
  pub each : (e : ℕ) → IsOneOf set e → IsWithPathOf trees set e

-- such a set of at most as many events as are asked for
abbrev pub HasPathsUpTo : Option ℕ → List NumberedTree → List ℕ → Type 0
HasPathsUpTo order trees set = HasPaths trees set × UpTo order set

-- n is the number of the family of the least such sets at which the operand is true
pub record IsFamilyOf (order : Option ℕ) (trees : List NumberedTree) (gates : List Gate) (o : Operand) (s : Stored) (n : ℕ)
    : Type 0 where
  pub in_store : IsFamilyNumber s n
  pub least : AreLeast (HasPathsUpTo order trees) (value_at gates o) (family s n)

-- the same of a joint of operands
pub record IsFamilyOfJoint (order : Option ℕ) (trees : List NumberedTree) (gates : List Gate) (both : Bool)
    (os : List Operand) (s : Stored) (n : ℕ) : Type 0 where
  pub in_store : IsFamilyNumber s n
  pub least : AreLeast (HasPathsUpTo order trees) (λ set. joint_at both set (values_at set gates) os) (family s n)

-- n is the number of the least sets of both families together, of at most as many events as are asked for, or of either
abbrev pub IsJoined : Option ℕ → Bool → Family → Family → Stored → ℕ → Type 0
IsJoined order true f g s n = IsLeastOf order (λ x. covers f x && covers g x) s n
IsJoined order false f g s n = IsLeastOf None (λ x. covers f x || covers g x) s n

-- the table has numbers of families of which no set lies within another
pub record AreTabledOperands (table : List NodeId) (s : Stored) : Type 0 where
  pub each : (g : ℕ) (n : NodeId) → Stands table g n → IsOperand s n.n

-- the table has the family of the gate that the operand names
pub record IsTabled (order : Option ℕ) (trees : List NumberedTree) (gates : List Gate) (table : List NodeId) (s : Stored)
    (o : Operand) : Type 0 where
  pub gate : (g : ℕ) (sign : Bool) (n : NodeId) → o ≡ GateIs g sign → Stands table g n
      → IsFamilyOf order trees gates (GateIs g true) s n.n

-- the same of each of these operands
pub record EachTabled (order : Option ℕ) (trees : List NumberedTree) (gates : List Gate) (table : List NodeId) (s : Stored)
    (os : List Operand) : Type 0 where
  pub each : (o : Operand) → IsOneOf os o → IsTabled order trees gates table s o

-- the store has the least firable sets of at most as many events as are asked for at which the operand is true, where the
-- numbered trees are those of a forest
pub record HasLeastFirable (order : Option ℕ) (trees : List NumberedTree) (gates : List Gate) (o : Operand) (l : Listed)
    : Type 0 where
  pub sound : IsSoundStore l.store
  pub in_store : IsFamilyNumber l.store l.root.n
  pub are : (forest : List ModeTree) → IsByModes forest trees
      → ListsLeastUpTo order forest (value_at gates o) (family l.store l.root.n)
