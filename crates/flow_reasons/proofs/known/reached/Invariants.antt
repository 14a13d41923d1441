use Rattle.flow_reasons.proofs.Knowing.{Decides}
use Rattle.flow_reasons.proofs.known.reached.Given as goal

abbrev pub invariant-loop-test : goal.invariant-loop-test
invariant-loop-test l = Decides l.known.values.now l.known.marks.now l.conditions l.test-index
