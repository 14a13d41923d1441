use Rattle.std.proofs.Common.{map, take}
use Rattle.eq_core.specs.Views.{operand_of}
use Rattle.gate_sharing.specs.Literals.{literal_operands, AreEnough}
use Rattle.gate_sharing.proofs.literals.literals_for.Given as goal

abbrev pub invariant-loop-operand : goal.invariant-loop-operand
invariant-loop-operand l =
    AreEnough (map operand_of (take l.operand-index l.operands)) (literal_operands l.literals.items)
