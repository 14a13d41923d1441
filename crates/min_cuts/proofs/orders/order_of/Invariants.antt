use Rattle.std.proofs.Common.{◌≡◌, map, take}
use Rattle.mode_trees.specs.Views.{tree_of}
use Rattle.min_cuts.specs.Kept.{numbers_of_set, edge_events}
use Rattle.min_cuts.proofs.orders.order_of.Given as goal

abbrev pub invariant-loop-tree : goal.invariant-loop-tree
invariant-loop-tree l =
    numbers_of_set l.order.items ≡ edge_events (map (tree_of (λ n. n)) (take l.tree-index l.forest.trees.items))
