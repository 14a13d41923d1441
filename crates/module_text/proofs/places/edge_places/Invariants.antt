use Rattle.std.proofs.Common.{take}
use Rattle.cut_text.specs.Printed.{forest_edges}
use Rattle.module_text.specs.Places.{ArePlacesOf}
use Rattle.module_text.proofs.places.edge_places.Given as goal

-- the edges of the trees so far
abbrev pub invariant-loop-tree : goal.invariant-loop-tree
invariant-loop-tree l = ArePlacesOf (forest_edges (take l.tree-index l.forest.trees.items)) l.table
