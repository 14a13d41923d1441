use Rattle.flow_changes.specs.Cone.{Knows}
use Rattle.flow_changes.proofs.Knowing.{Decides}
use Rattle.flow_changes.proofs.known.reached.Given as goal

abbrev pub invariant-loop-test : goal.invariant-loop-test
invariant-loop-test l = Decides (Knows l.known.values.now l.known.known.now) l.conditions l.test-index
