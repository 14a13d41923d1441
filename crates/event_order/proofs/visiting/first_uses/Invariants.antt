use Rattle.std.proofs.Common.{map}
use Rattle.eq_core.specs.Views.{gate_of, operand_of}
use Rattle.event_order.specs.Visiting.{work}
use Rattle.event_order.proofs.Walking.{IsWalk}
use Rattle.event_order.proofs.visiting.first_uses.Given as goal

abbrev pub invariant-loop-operand : goal.invariant-loop-operand
invariant-loop-operand l = IsWalk l.trees (map gate_of l.gates) (operand_of l.fn.root) l.walk

abbrev pub decreases-loop-operand : goal.decreases-loop-operand
decreases-loop-operand l = work (map gate_of l.gates) l.walk
