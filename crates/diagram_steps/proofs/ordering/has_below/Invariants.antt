use Rattle.diagram_steps.specs.Trees.{edges_of}
use Rattle.diagram_steps.proofs.TreeOrder.{AreFrom}
use Rattle.diagram_steps.proofs.ordering.has_below.Given as goal

-- none of the edges so far
abbrev pub invariant-loop-edge : goal.invariant-loop-edge
invariant-loop-edge l = AreFrom (edges_of l.fn.tree) l.edge-index l.fn.end
