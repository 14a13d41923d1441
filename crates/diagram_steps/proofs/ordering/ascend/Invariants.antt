use Rattle.diagram_steps.proofs.TreeOrder.{AreFirst}
use Rattle.diagram_steps.proofs.ordering.ascend.Given as goal

-- the trees so far ascend
abbrev pub invariant-loop-tree : goal.invariant-loop-tree
invariant-loop-tree l = AreFirst l.fn.trees l.tree-index l.end
