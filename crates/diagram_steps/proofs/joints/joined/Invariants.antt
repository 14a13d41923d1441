use Rattle.diagram_steps.proofs.Folding.{IsFolded}
use Rattle.diagram_steps.proofs.joints.joined.Given as goal

abbrev pub invariant-loop-left : goal.invariant-loop-left
invariant-loop-left l = IsFolded l.fn.all_needed l.fn.store l.fn.parts l.left l.store l.so_far.n

abbrev pub decreases-loop-left : goal.decreases-loop-left
decreases-loop-left l = l.left
