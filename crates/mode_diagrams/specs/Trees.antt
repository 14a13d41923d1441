-- Trees whose modes are numbered, and the sets of events on the paths to their modes.
use Rattle.std.specs.Prelude.{◌≡◌, ℕ, suc, ◌≤◌, List, length}
use Rattle.ar_base.specs.Lists.{Stands, IsOneOf}
use Rattle.mode_nodes.specs.Diagrams.{mode_of}
use Rattle.diagram_steps.specs.declared.trees.NumberedEdge.{NumberedEdge}
use Rattle.diagram_steps.specs.declared.trees.NumberedTree.{NumberedTree}
use Rattle.diagram_steps.specs.Trees.{edges_of, TreeHasEvent}

-- the event is on the path to mode n: it is that of the edge that enters the mode, or on the path to the mode that this
-- edge leaves; no event is on the path to mode 0
pub data IsOnPath (edges : List NumberedEdge) (e : ℕ) : ℕ → Type 0 where
  last : {n m : ℕ} {edge : NumberedEdge} → n ≡ suc m → Stands edges m edge → edge.event.n ≡ e → IsOnPath edges e n
  earlier : {n m : ℕ} {edge : NumberedEdge} → n ≡ suc m → Stands edges m edge → IsOnPath edges e edge.from
      → IsOnPath edges e n

-- each edge leaves mode 0 or one that an earlier edge enters
pub record IsNumberedTree (tree : NumberedTree) : Type 0 where
  pub each : (m : ℕ) (edge : NumberedEdge) → Stands (edges_of tree) m edge → edge.from ≤ m

-- the same of each tree
pub record AreNumbered (trees : List NumberedTree) : Type 0 where
  pub each : (k : ℕ) (tree : NumberedTree) → Stands trees k tree → IsNumberedTree tree

-- no event has edges in two of the trees
pub record AreApart (trees : List NumberedTree) : Type 0 where
  pub one : (j k : ℕ) (s t : NumberedTree) (e : ℕ) → Stands trees j s → Stands trees k t → TreeHasEvent s e → TreeHasEvent t e
      → j ≡ k

-- the set has exactly the events on the paths to these modes, a mode a tree, in the trees from place i on
pub record IsSetFrom (trees : List NumberedTree) (i : ℕ) (modes set : List ℕ) : Type 0 where
  pub ends : (k : ℕ) → length trees ≤ k → mode_of modes k ≡ 0
  pub within : (k : ℕ) (tree : NumberedTree) → i ≤ k → Stands trees k tree → mode_of modes k ≤ length (edges_of tree)
  pub sound : (e : ℕ) → IsOneOf set e
      → (k : ℕ) × (tree : NumberedTree) × (i ≤ k) × Stands trees k tree × IsOnPath (edges_of tree) e (mode_of modes k)
  pub whole : (k : ℕ) (tree : NumberedTree) (e : ℕ) → i ≤ k → Stands trees k tree
      → IsOnPath (edges_of tree) e (mode_of modes k) → IsOneOf set e
