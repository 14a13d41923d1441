use Rattle.zdd_nodes.specs.Nodes.{IsSoundStore}
use Rattle.mode_trees.specs.Views.{tree_of}
use Rattle.gate_diagrams.specs.Paths.{AddsFamilies, AreModesTabled}
use Rattle.gate_diagrams.proofs.paths.tree_paths.Given as goal

abbrev pub invariant-loop-edge : goal.invariant-loop-edge
invariant-loop-edge l =
    IsSoundStore l.ops × AddsFamilies l.fn.ops l.ops × AreModesTabled
    (tree_of (λ n. n) l.fn.tree) l.edge-index l.modes l.ops l.paths.n
