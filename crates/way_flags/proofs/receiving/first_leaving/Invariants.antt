use Rattle.way_flags.proofs.Pairing.{KeepBefore}
use Rattle.way_flags.proofs.receiving.first_leaving.Given as goal

abbrev pub invariant-loop-effect : goal.invariant-loop-effect
invariant-loop-effect l = KeepBefore l.parts l.effects l.effect-index
