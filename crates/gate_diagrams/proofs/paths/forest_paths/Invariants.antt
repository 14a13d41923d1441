use Rattle.std.proofs.Common.{map, take}
use Rattle.zdd_nodes.specs.Nodes.{IsSoundStore}
use Rattle.mode_trees.specs.Views.{tree_of}
use Rattle.gate_diagrams.proofs.TreePaths.{AreDrawn}
use Rattle.gate_diagrams.proofs.paths.forest_paths.Given as goal

abbrev pub invariant-loop-tree : goal.invariant-loop-tree
invariant-loop-tree l =
    IsSoundStore l.ops × AreDrawn (map (tree_of (λ n. n)) (take l.tree-index l.fn.trees)) l.ops l.families.items
