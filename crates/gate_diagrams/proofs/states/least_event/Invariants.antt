use Rattle.std.proofs.Common.{take}
use Rattle.gate_diagrams.specs.Walked.{families_left, IsLeastEvent}
use Rattle.gate_diagrams.proofs.states.least_event.Given as goal

abbrev pub invariant-loop-tree : goal.invariant-loop-tree
invariant-loop-tree l = IsLeastEvent (families_left l.trees (take l.tree-index l.left)) l.least
