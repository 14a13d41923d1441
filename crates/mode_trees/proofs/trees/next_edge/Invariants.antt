use Rattle.mode_trees.specs.Paths.{IsNextOrNone}
use Rattle.mode_trees.proofs.trees.next_edge.Given as goal

abbrev pub invariant-loop-edge : goal.invariant-loop-edge
invariant-loop-edge l = IsNextOrNone l.edges l.edge-index l.from l.low l.found
