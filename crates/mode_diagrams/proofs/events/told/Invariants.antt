use Rattle.mode_diagrams.proofs.Laws.{IsSoFar}
use Rattle.mode_diagrams.proofs.events.told.Given as goal

abbrev pub invariant-loop-edge : goal.invariant-loop-edge
invariant-loop-edge l = IsSoFar l.fn.tree l.fn.event.n l.edge-index l.told.items
