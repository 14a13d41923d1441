use Rattle.diagram_steps.specs.Trees.{edges_of}
use Rattle.coherent_cuts.proofs.Pairs.{PairsOf}
use Rattle.coherent_cuts.proofs.exclusive.with_pairs_of.Given as goal

abbrev pub invariant-loop-second : goal.invariant-loop-second
invariant-loop-second l = PairsOf (edges_of l.tree) l.first l.second l.fn.ops l.fn.pairs.n l.ops l.pairs.n

abbrev pub decreases-loop-second : goal.decreases-loop-second
decreases-loop-second l = l.second
