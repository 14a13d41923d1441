use Rattle.diagram_steps.proofs.TreeOrder.{IsEndAt}
use Rattle.diagram_steps.proofs.ordering.end_of.Given as goal

-- the end of the edges so far
abbrev pub invariant-loop-edge : goal.invariant-loop-edge
invariant-loop-edge l = IsEndAt l.fn.tree l.fn.start l.edge-index l.end
