use Rattle.std.proofs.Common.{map, take}
use Rattle.eq_core.specs.Views.{all_needed, operand_of}
use Rattle.gate_sharing.specs.Images.{needed_for}
use Rattle.gate_sharing.specs.Literals.{literal_operands, AreEnough}
use Rattle.gate_sharing.proofs.tables.needed_literals.Given as goal

abbrev pub invariant-loop-operand : goal.invariant-loop-operand
invariant-loop-operand l =
    AreEnough (needed_for (all_needed l.gate.joint) (map operand_of l.images)
    (map operand_of (take l.operand-index l.gate.operands.items))) (literal_operands l.literals.items)
