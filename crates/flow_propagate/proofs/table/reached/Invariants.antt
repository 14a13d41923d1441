use Rattle.flow_propagate.proofs.Reaching.{Decides}
use Rattle.flow_propagate.proofs.table.reached.Given as goal

abbrev pub invariant-loop-test : goal.invariant-loop-test
invariant-loop-test l = Decides l.table.rows.items l.conditions l.test-index
