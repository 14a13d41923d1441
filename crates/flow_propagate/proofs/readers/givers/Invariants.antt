use Rattle.flow_propagate.specs.Named.{AreTargets}
use Rattle.flow_propagate.proofs.readers.givers.Given as goal

abbrev pub invariant-loop-place : goal.invariant-loop-place
invariant-loop-place l = AreTargets l.parts l.place l.pairs.items
