use Rattle.std.proofs.Common.{take}
use Rattle.flow_reasons.specs.Bringing.{AreBringing}
use Rattle.flow_reasons.proofs.bringing.bringing.Given as goal

abbrev pub invariant-loop-n : goal.invariant-loop-n
invariant-loop-n l = AreBringing l.parts l.values l.marks (take l.n-index l.among) l.found.items
