use Rattle.std.proofs.Common.{◌≡◌, ◌++◌, take}
use Rattle.diagram_steps.specs.Trees.{edges_of}
use Rattle.event_order.specs.Taking.{AreNumbersOf, events_of}
use Rattle.event_order.proofs.Taken.{IsRenumbering}
use Rattle.event_order.proofs.numbers.Numbers.renumber.Given as goal

-- the edges so far are over the next numbers
abbrev pub invariant-loop-edge : goal.invariant-loop-edge
invariant-loop-edge l =
    (l.self.names.items ≡ l.fn.self.names.items ++ events_of (take l.edge-index (edges_of l.tree)))
    × AreNumbersOf l.self.names.items l.self.numbers
    × IsRenumbering l.fn.self.names.items l.tree l.edge-index l.self.names.items l.edges.items
