use Rattle.std.proofs.Common.{take}
use Rattle.zdd_nodes.specs.Bounds.{node_numbers, AllEnd}
use Rattle.zdd_nodes.proofs.bounds.first_with_event.Given as goal

abbrev pub invariant-loop-number : goal.invariant-loop-number
invariant-loop-number l = AllEnd l.store l.fn.to (node_numbers (take l.number-index l.fn.numbers))
