use Rattle.std.proofs.Common.{refl}
use Rattle.ar_base.proofs.Standing.{stands_item}
use Rattle.diagram_steps.proofs.TreeOrder.{first_more, first_all, first_overlap}
use Rattle.diagram_steps.proofs.ordering.ascend.Goals as goal

pub returns-then-has_below-clause-no : goal.returns-then-has_below-clause-no
returns-then-has_below-clause-no c = λ e.
    let trees = c.args.trees.now in
    let i = c.loop-tree.tree-index in
    let tree = c.tree-item.result in
    first_overlap trees i c.loop-tree.end tree (stands_item trees i tree c.loop-tree-test.true c.tree-item.is)
    (c.if-has_below.ensures.yes refl) c.loop-tree.invariant

pub loop-tree-preserved : goal.loop-tree-preserved
loop-tree-preserved c =
    let trees = c.args.trees.now in
    let i = c.loop-tree.tree-index in
    let tree = c.tree-item.result in
    first_more trees i c.loop-tree.end c.end_of-end.result tree
    (stands_item trees i tree c.loop-tree-test.true c.tree-item.is) (c.if-has_below.ensures.no refl)
    c.end_of-end.ensures.end c.end_of-end.ensures.range c.loop-tree.invariant

pub returns-clause-yes : goal.returns-clause-yes
returns-clause-yes c = λ e.
    first_all c.args.trees.now c.loop-tree.tree-index c.loop-tree.end c.loop-tree-test.false c.loop-tree.invariant
