use Rattle.std.proofs.Common.{◌++◌, map, take}
use Rattle.eq_core.specs.Views.{all_needed, operand_of}
use Rattle.gate_sharing.specs.Absorbing.{AreEnoughBeside}
use Rattle.gate_sharing.specs.Images.{with_sign}
use Rattle.gate_sharing.specs.Literals.{literal_operands}
use Rattle.gate_sharing.proofs.absorbing.left_beside.Given as goal

abbrev pub invariant-loop-operand : goal.invariant-loop-operand
invariant-loop-operand l =
    AreEnoughBeside (literal_operands (l.before ++ l.after))
    (map (with_sign (all_needed l.gate.joint)) (map operand_of (take l.operand-index l.gate.operands.items)))
    (literal_operands l.left.items)
