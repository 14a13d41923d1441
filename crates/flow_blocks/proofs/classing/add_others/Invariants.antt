-- The members among the candidates so far.
use Rattle.std.proofs.Common.{take}
use Rattle.flow_blocks.specs.Table.{IsSelection}
use Rattle.flow_blocks.proofs.classing.add_others.Given as goal

abbrev pub invariant-loop-number : goal.invariant-loop-number
invariant-loop-number l = IsSelection l.rows l.least (take l.number-index l.candidates) l.members.items
