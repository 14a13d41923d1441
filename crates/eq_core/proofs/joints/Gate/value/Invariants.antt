use Rattle.std.proofs.Common.{◌≡◌, map, drop}
use Rattle.eq_core.specs.Values.{joint_at}
use Rattle.ar_base.specs.NumbersInside.{numbers_of}
use Rattle.eq_core.specs.Views.{all_needed, operand_of}
use Rattle.eq_core.proofs.joints.Gate.value.Given as goal

abbrev pub invariant-loop-operand : goal.invariant-loop-operand
invariant-loop-operand l =
    joint_at (all_needed l.self.joint) (numbers_of l.set) l.before
    (map operand_of (drop l.operand-index l.self.operands.items))
    ≡ joint_at (all_needed l.self.joint) (numbers_of l.set) l.before (map operand_of l.self.operands.items)
