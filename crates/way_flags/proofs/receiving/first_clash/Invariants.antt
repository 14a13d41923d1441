use Rattle.way_flags.proofs.Neighbours.{AgreeBefore}
use Rattle.way_flags.proofs.receiving.first_clash.Given as goal

abbrev pub invariant-loop-place : goal.invariant-loop-place
invariant-loop-place l = AgreeBefore l.effects l.place
