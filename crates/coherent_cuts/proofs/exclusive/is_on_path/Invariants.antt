use Rattle.diagram_steps.specs.Trees.{edges_of}
use Rattle.coherent_cuts.proofs.Pairs.{IsUpPath}
use Rattle.coherent_cuts.proofs.exclusive.is_on_path.Given as goal

abbrev pub invariant-loop-at : goal.invariant-loop-at
invariant-loop-at l = IsUpPath (edges_of l.tree) l.event.n l.fn.mode l.at

abbrev pub decreases-loop-at : goal.decreases-loop-at
decreases-loop-at l = l.at
