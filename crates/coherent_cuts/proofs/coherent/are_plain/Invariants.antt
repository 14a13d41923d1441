use Rattle.std.proofs.Common.{map}
use Rattle.eq_core.specs.Views.{operand_of}
use Rattle.coherent_cuts.proofs.Folding.{AreFirstPlain}
use Rattle.coherent_cuts.proofs.coherent.are_plain.Given as goal

abbrev pub invariant-loop-operand : goal.invariant-loop-operand
invariant-loop-operand l = AreFirstPlain (map operand_of l.operands) l.operand-index
