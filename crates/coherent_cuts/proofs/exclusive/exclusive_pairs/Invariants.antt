use Rattle.coherent_cuts.proofs.Pairs.{PairsOfTrees}
use Rattle.coherent_cuts.proofs.exclusive.exclusive_pairs.Given as goal

abbrev pub invariant-loop-left : goal.invariant-loop-left
invariant-loop-left l = PairsOfTrees l.trees l.left l.fn.ops l.ops l.pairs.n

abbrev pub decreases-loop-left : goal.decreases-loop-left
decreases-loop-left l = l.left
