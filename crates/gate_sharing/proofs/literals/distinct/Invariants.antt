use Rattle.std.proofs.Common.{take}
use Rattle.gate_sharing.proofs.Alls.{Same}
use Rattle.gate_sharing.proofs.literals.distinct.Given as goal

abbrev pub invariant-loop-literal : goal.invariant-loop-literal
invariant-loop-literal l = Same (take l.literal-index l.sorted) l.all.items
