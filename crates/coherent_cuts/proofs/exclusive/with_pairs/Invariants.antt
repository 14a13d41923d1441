use Rattle.diagram_steps.specs.Trees.{edges_of}
use Rattle.coherent_cuts.proofs.Pairs.{PairsOfTree}
use Rattle.coherent_cuts.proofs.exclusive.with_pairs.Given as goal

abbrev pub invariant-loop-first : goal.invariant-loop-first
invariant-loop-first l = PairsOfTree (edges_of l.tree) l.first l.fn.ops l.fn.pairs.n l.ops l.pairs.n

abbrev pub decreases-loop-first : goal.decreases-loop-first
decreases-loop-first l = l.first
