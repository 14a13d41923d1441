use Rattle.mode_trees.specs.Views.{tree_of}
use Rattle.mode_diagrams.proofs.Making.{IsSoFar}
use Rattle.mode_diagrams.proofs.numbering.numbered_tree.Given as goal

abbrev pub invariant-loop-place : goal.invariant-loop-place
invariant-loop-place l = IsSoFar (tree_of (λ n. n) l.fn.tree) l.place l.edges.items
