use Rattle.std.proofs.Common.{◌≡◌, take}
use Rattle.diagram_steps.specs.Trees.{edges_of}
use Rattle.diagram_steps.specs.Order.{least_from}
use Rattle.diagram_steps.proofs.TreeOrder.{first_number}
use Rattle.diagram_steps.proofs.ordering.least_event.Given as goal

-- the least of the edges so far
abbrev pub invariant-loop-edge : goal.invariant-loop-edge
invariant-loop-edge l =
    l.least ≡ least_from (first_number (edges_of l.fn.tree)) (take l.edge-index (edges_of l.fn.tree))
