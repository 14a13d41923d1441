use Rattle.flow_propagate.specs.Named.{AreNamed}
use Rattle.flow_propagate.proofs.readers.readers.Given as goal

abbrev pub invariant-loop-place : goal.invariant-loop-place
invariant-loop-place l = AreNamed l.parts l.place l.pairs.items
