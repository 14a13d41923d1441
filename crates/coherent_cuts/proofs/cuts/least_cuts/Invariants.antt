use Rattle.std.proofs.Common.{map}
use Rattle.eq_core.specs.Views.{gate_of}
use Rattle.least_families.specs.Held.{AreLeastHeld}
use Rattle.coherent_cuts.proofs.Folding.{IsMaking}
use Rattle.coherent_cuts.proofs.cuts.least_cuts.Given as goal

abbrev pub invariant-loop-number : goal.invariant-loop-number
invariant-loop-number l = AreLeastHeld l.memo l.ops.families
    × IsMaking l.order l.trees (map gate_of l.gates) l.marks.items l.number l.table.items l.ops
