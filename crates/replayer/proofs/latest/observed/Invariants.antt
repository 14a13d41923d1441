use Rattle.replayer.specs.Observing.{AreObserved}
use Rattle.replayer.proofs.latest.observed.Given as goal

abbrev pub invariant-loop-place : goal.invariant-loop-place
invariant-loop-place l = AreObserved l.parts l.place l.pairs.items
