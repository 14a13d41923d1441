use Rattle.way_flags.proofs.Pairing.{AreEach}
use Rattle.way_flags.proofs.receiving.one_each.Given as goal

abbrev pub invariant-loop-effect : goal.invariant-loop-effect
invariant-loop-effect l = AreEach l.effects l.effect-index l.new.items
