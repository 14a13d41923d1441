use Rattle.std.proofs.Common.{◌≡◌, ◌<◌, List, get_or, length, subst}
use Rattle.mode_trees.specs.declared.forests.ModeTree.{ModeTree}
use Rattle.min_cuts.specs.Kept.{numbers_of_set}
use Rattle.min_cuts.proofs.Growing.{order_more}
use Rattle.min_cuts.proofs.orders.order_of.Goals as goal

pub loop-tree-preserved : goal.loop-tree-preserved
loop-tree-preserved c =
    let k = c.loop-tree.tree-index in
    let tree : ModeTree = c.tree-item.result in
    let same = c.deref-tree-items.ensures.value in
    order_more c.args.forest.now.trees.items k tree
    (subst (λ (z : List ModeTree). k < length z) same c.loop-tree-test.true)
    (subst (λ (z : List ModeTree). tree ≡ get_or z k tree) same c.tree-item.is)
    (numbers_of_set c.loop-tree.order.items) (numbers_of_set c.add_events.new.order.items) c.deref.result.now c.deref.ensures.value
    c.loop-tree.invariant c.in_ok-add_events.ensures
