use Rattle.std.proofs.Common.{◌≡◌, ◌+◌, drop}
use Rattle.cut_text.specs.ForestPrinted.{edge_count}
use Rattle.cut_text.proofs.forest_printing.edges_in.Given as goal

abbrev pub invariant-loop-tree : goal.invariant-loop-tree
invariant-loop-tree l = l.edges + edge_count (drop l.tree-index l.trees) ≡ edge_count l.trees
