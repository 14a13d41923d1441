-- Trees whose modes are numbered: their edges and events.
use Rattle.std.specs.Prelude.{◌≡◌, ℕ, List}
use Rattle.ar_base.specs.Lists.{IsOneOf}
use Rattle.diagram_steps.specs.declared.trees.NumberedEdge.{NumberedEdge}
use Rattle.diagram_steps.specs.declared.trees.NumberedTree.{NumberedTree}

-- the edges of a tree
abbrev pub edges_of : NumberedTree → List NumberedEdge
edges_of tree = tree.edges.items

-- an edge of the tree is one of the event
pub record TreeHasEvent (tree : NumberedTree) (e : ℕ) : Type 0 where
  pub edge : NumberedEdge
  pub one : IsOneOf (edges_of tree) edge
  pub is : edge.event.n ≡ e
