-- What the modes of trees cost: as many events as are on the path to each.
use Rattle.std.specs.Prelude.{◌≡◌, ◌≤◌, ℕ, suc, List, Option, length, slice_index_or}
use Rattle.ar_base.specs.Lists.{Stands, AreDifferent, IsOneOf}
use Rattle.ar_firing.specs.CutsInside.{UpTo}
use Rattle.mode_nodes.specs.Bounds.{Costs, Bounded, AreAffordable}
use Rattle.diagram_steps.specs.declared.trees.NumberedEdge.{NumberedEdge}
use Rattle.diagram_steps.specs.declared.trees.NumberedTree.{NumberedTree}
use Rattle.diagram_steps.specs.Trees.{edges_of}
use Rattle.mode_diagrams.specs.Trees.{IsOnPath, IsSetFrom}

-- no two edges of the tree have one event
pub record HasDifferentEvents (tree : NumberedTree) : Type 0 where
  pub one : (j k : ℕ) (a b : NumberedEdge) → Stands (edges_of tree) j a → Stands (edges_of tree) k b
      → a.event.n ≡ b.event.n → j ≡ k

-- the same of each tree
pub record HaveDifferentEvents (trees : List NumberedTree) : Type 0 where
  pub each : (k : ℕ) (tree : NumberedTree) → Stands trees k tree → HasDifferentEvents tree

-- the list has the events on the path to a mode, each once
pub record IsPathList (edges : List NumberedEdge) (m : ℕ) (path : List ℕ) : Type 0 where
  pub different : AreDifferent path
  pub sound : (e : ℕ) → IsOneOf path e → IsOnPath edges e m
  pub whole : (e : ℕ) → IsOnPath edges e m → IsOneOf path e

-- what the first mode and those that the first so many edges enter cost: as many events as are on the path to each
pub record AreModeCosts (edges : List NumberedEdge) (count : ℕ) (costs : List ℕ) : Type 0 where
  pub long : length costs ≡ suc count
  pub each : (m : ℕ) → m ≤ count
      → (path : List ℕ) × IsPathList edges m path × (length path ≡ slice_index_or costs m 0)
  pub small : (m : ℕ) → m ≤ count → slice_index_or costs m 0 ≤ m

-- the costs are those of all modes of the first so many trees
pub record AreCostsOf (trees : List NumberedTree) (count : ℕ) (costs : Costs) : Type 0 where
  pub long : length costs ≡ count
  pub each : (k : ℕ) (tree : NumberedTree) (modes : List ℕ) → Stands trees k tree → Stands costs k modes
      → AreModeCosts (edges_of tree) (length (edges_of tree)) modes

-- what the store's modes cost is enough exactly at the sets of at most as many events as are asked for
pub record IsEnoughFor (order : Option ℕ) (trees : List NumberedTree) (s : Bounded) : Type 0 where
  pub short : length s.costs ≤ length trees
  pub few : (modes set : List ℕ) → IsSetFrom trees 0 modes set → AreAffordable s modes → UpTo order set
  pub all : (modes set : List ℕ) → IsSetFrom trees 0 modes set → UpTo order set → AreAffordable s modes
