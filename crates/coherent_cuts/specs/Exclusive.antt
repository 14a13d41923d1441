-- Events of one tree that are on no one path.
use Rattle.std.specs.Prelude.{◌≡◌, ◌⊎◌, ◌↔◌, ◌<◌, ℕ, suc, true, List}
use Rattle.ar_base.specs.Lists.{Stands}
use Rattle.zdd_nodes.specs.Families.{Family, holds}
use Rattle.diagram_steps.specs.declared.trees.NumberedEdge.{NumberedEdge}
use Rattle.diagram_steps.specs.declared.trees.NumberedTree.{NumberedTree}
use Rattle.diagram_steps.specs.Trees.{edges_of}
use Rattle.mode_diagrams.specs.Trees.{IsOnPath}
use Rattle.least_families.specs.Least.{covers}

-- the set has the events of two of the edges, this and a later one, and the path to the mode that the later one enters goes
-- without the event of this
pub record HasEdgePair (edges : List NumberedEdge) (first second : ℕ) (set : List ℕ) : Type 0 where
  pub before : first < second
  pub one : NumberedEdge
  pub other : NumberedEdge
  pub one_stands : Stands edges first one
  pub other_stands : Stands edges second other
  pub not_on_path : IsOnPath edges one.event.n (suc second) → ⊥
  pub has_one : holds one.event.n set ≡ true
  pub has_other : holds other.event.n set ≡ true

-- two events of one of the trees are in the set and on no one path
pub record HasExclusivePair (trees : List NumberedTree) (set : List ℕ) : Type 0 where
  pub place : ℕ
  pub tree : NumberedTree
  pub stands : Stands trees place tree
  pub first : ℕ
  pub second : ℕ
  pub pair : HasEdgePair (edges_of tree) first second set

-- a set of the family lies within exactly those sets that have two events on no one path
pub record HasExclusive (trees : List NumberedTree) (f : Family) : Type 0 where
  pub each : (s : List ℕ) → (covers f s ≡ true) ↔ HasExclusivePair trees s

-- g covers what f covers, and the sets with a pair of this edge's event and that of a later edge
pub record AddsPairsOf (edges : List NumberedEdge) (first : ℕ) (f g : Family) : Type 0 where
  pub sound : (s : List ℕ) → covers g s ≡ true → (covers f s ≡ true) ⊎ ((second : ℕ) × HasEdgePair edges first second s)
  pub kept : (s : List ℕ) → covers f s ≡ true → covers g s ≡ true
  pub whole : (s : List ℕ) (second : ℕ) → HasEdgePair edges first second s → covers g s ≡ true

-- the same of the pairs of any two edges
pub record AddsPairs (edges : List NumberedEdge) (f g : Family) : Type 0 where
  pub sound : (s : List ℕ) → covers g s ≡ true
      → (covers f s ≡ true) ⊎ ((first second : ℕ) × HasEdgePair edges first second s)
  pub kept : (s : List ℕ) → covers f s ≡ true → covers g s ≡ true
  pub whole : (s : List ℕ) (first second : ℕ) → HasEdgePair edges first second s → covers g s ≡ true
