use Rattle.std.proofs.Common.{List, take, ◌++◌}
use Rattle.mode_trees.specs.declared.forests.Edge.{Edge}
use Rattle.module_text.specs.Places.{ArePlacesOf}
use Rattle.module_text.proofs.places.add_edges.Given as goal

-- the edges so far
abbrev pub invariant-loop-edge : goal.invariant-loop-edge
invariant-loop-edge l = (before : List Edge) → ArePlacesOf before l.initial.table
    → ArePlacesOf (before ++ take l.edge-index l.edges) l.table
