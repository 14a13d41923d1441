use Rattle.std.proofs.Common.{take}
use Rattle.gate_sharing.specs.Literals.{literal_operands}
use Rattle.gate_sharing.specs.Votes.{AreTermsOf}
use Rattle.gate_sharing.proofs.sharing.Sharing.terms.Given as goal

abbrev pub invariant-loop-literal : goal.invariant-loop-literal
invariant-loop-literal l = AreTermsOf l.self (literal_operands (take l.literal-index l.literals)) l.terms.items
