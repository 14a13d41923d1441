use Rattle.std.proofs.Common.{take}
use Rattle.cut_text.specs.Printed.{forest_edges}
use Rattle.module_text.proofs.Placing.{tree_more}
use Rattle.module_text.proofs.places.edge_places.Goals as goal

pub loop-tree-preserved : goal.loop-tree-preserved
loop-tree-preserved c =
    let ts = c.args.forest.now.trees.items in
    let k = c.loop-tree.tree-index in
    tree_more ts c.deref-tree-items.result.now k c.tree-item.result c.deref-tree-items.ensures.value
    c.loop-tree-test.true c.tree-item.is c.deref.result.now c.deref.ensures.value c.add_edges.new.table
    (c.in_ok-add_edges.ensures (forest_edges (take k ts)) c.loop-tree.invariant)
