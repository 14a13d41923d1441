use Rattle.std.proofs.Common.{map}
use Rattle.eq_core.specs.Views.{gate_of}
use Rattle.coherent_cuts.proofs.Folding.{AreGatesPlain}
use Rattle.coherent_cuts.proofs.coherent.is_coherent.Given as goal

abbrev pub invariant-loop-number : goal.invariant-loop-number
invariant-loop-number l = AreGatesPlain (map gate_of l.gates) l.marks.items l.number
