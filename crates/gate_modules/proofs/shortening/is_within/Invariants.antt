use Rattle.std.proofs.Common.{take}
use Rattle.gate_modules.specs.Choosing.{IsWithinNone}
use Rattle.gate_modules.proofs.shortening.is_within.Given as goal

abbrev pub invariant-loop-outer : goal.invariant-loop-outer
invariant-loop-outer l = IsWithinNone (take l.outer-index l.fn.chosen) l.fn.range
