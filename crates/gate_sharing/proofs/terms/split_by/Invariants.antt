use Rattle.std.proofs.Common.{take}
use Rattle.gate_sharing.specs.Literals.{literal_of}
use Rattle.gate_sharing.specs.Votes.{AreSides}
use Rattle.gate_sharing.proofs.terms.split_by.Given as goal

abbrev pub invariant-loop-term : goal.invariant-loop-term
invariant-loop-term l = AreSides (literal_of l.test) (take l.term-index l.terms) l.with.items l.without.items
