use Rattle.std.proofs.Common.{take}
use Rattle.gate_diagrams.specs.Walked.{AreHalves}
use Rattle.gate_diagrams.proofs.states.halves.Given as goal

abbrev pub invariant-loop-tree : goal.invariant-loop-tree
invariant-loop-tree l = AreHalves l.trees l.event.n l.taken (take l.tree-index l.left) l.made.items
