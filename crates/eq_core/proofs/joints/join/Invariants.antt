use Rattle.std.proofs.Common.{◌≡◌, map, [], drop}
use Rattle.eq_core.specs.Gates.{joined}
use Rattle.eq_core.specs.Views.{all_needed, operand_of, gate_of}
use Rattle.eq_core.proofs.joints.join.Given as goal

abbrev pub invariant-loop-operand : goal.invariant-loop-operand
invariant-loop-operand l =
    joined (all_needed l.joint) (map gate_of l.gates.items) (map operand_of l.kept.items)
    (map operand_of (drop l.operand-index l.operands)) ≡ joined (all_needed l.joint) (map gate_of l.gates.items)
    [] (map operand_of l.operands)
