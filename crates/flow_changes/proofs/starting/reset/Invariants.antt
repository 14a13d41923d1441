use Rattle.std.proofs.Common.{take}
use Rattle.flow_changes.specs.Known.{Resets}
use Rattle.flow_changes.proofs.starting.reset.Given as goal

abbrev pub invariant-loop-n : goal.invariant-loop-n
invariant-loop-n l = Resets l.parts (take l.n-index l.members) l.known l.initial.values.items l.values.items
