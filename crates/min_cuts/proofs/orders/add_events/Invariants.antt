use Rattle.std.proofs.Common.{◌≡◌, ◌++◌, map, take}
use Rattle.mode_trees.specs.Views.{edge_row}
use Rattle.min_cuts.specs.Kept.{numbers_of_set}
use Rattle.min_cuts.proofs.orders.add_events.Given as goal

abbrev pub invariant-loop-edge : goal.invariant-loop-edge
invariant-loop-edge l =
    numbers_of_set l.order.items ≡ numbers_of_set l.fn.order.items ++ map (λ e. (edge_row (λ n. n) e).label.event)
    (take l.edge-index l.edges)
