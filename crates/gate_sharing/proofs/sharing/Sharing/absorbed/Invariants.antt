use Rattle.gate_sharing.proofs.Absorbings.{Absorbing}
use Rattle.gate_sharing.proofs.sharing.Sharing.absorbed.Given as goal

abbrev pub invariant-loop-place : goal.invariant-loop-place
invariant-loop-place l = Absorbing l.literals l.fn.self l.self l.place l.kept.items
