use Rattle.std.proofs.Common.{◌≡◌, take}
use Rattle.gate_diagrams.specs.Walked.{moving}
use Rattle.gate_diagrams.proofs.firable.firable_sets.Given as goal

-- those of the trees so far that have an edge
abbrev pub invariant-loop-tree : goal.invariant-loop-tree
invariant-loop-tree l = l.left.items ≡ moving (take l.tree-index l.fn.paths.items)
