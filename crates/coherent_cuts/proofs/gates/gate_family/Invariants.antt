use Rattle.std.proofs.Common.{map}
use Rattle.eq_core.specs.Views.{all_needed, operand_of}
use Rattle.coherent_cuts.proofs.Folding.{IsFolded}
use Rattle.coherent_cuts.proofs.gates.gate_family.Given as goal

abbrev pub invariant-loop-left : goal.invariant-loop-left
invariant-loop-left l = IsFolded l.order l.trees l.table l.fn.ops (all_needed l.gate.joint)
    (map operand_of l.gate.operands.items) l.left l.memo l.ops l.so_far.n

abbrev pub decreases-loop-left : goal.decreases-loop-left
decreases-loop-left l = l.left
