use Rattle.std.proofs.Common.{length}
use Rattle.event_order.proofs.Walking.{IsPushing}
use Rattle.event_order.proofs.visiting.push_all.Given as goal

abbrev pub invariant-loop-last : goal.invariant-loop-last
invariant-loop-last l = IsPushing l.fn.operands.items l.fn.stack.items l.operands.items l.stack.items

abbrev pub decreases-loop-last : goal.decreases-loop-last
decreases-loop-last l = length l.operands.items
