use Rattle.std.proofs.Common.{map, take}
use Rattle.mode_trees.specs.Views.{tree_of}
use Rattle.mode_diagrams.proofs.Making.{AreMade}
use Rattle.mode_diagrams.proofs.numbering.numbered.Given as goal

abbrev pub invariant-loop-tree : goal.invariant-loop-tree
invariant-loop-tree l = AreMade (map (tree_of (λ n. n)) (take l.tree-index l.fn.trees)) l.made.items
