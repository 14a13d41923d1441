use Rattle.mode_search.proofs.FactsAt.{Decides}
use Rattle.mode_search.proofs.moves.reached.Given as goal

abbrev pub invariant-loop-test : goal.invariant-loop-test
invariant-loop-test l = Decides l.at.variable.n l.at.values.now l.conditions l.test-index
