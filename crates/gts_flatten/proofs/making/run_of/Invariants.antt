use Rattle.gts_flatten.proofs.Runs.{RunTo}
use Rattle.gts_flatten.proofs.making.run_of.Given as goal

abbrev pub invariant-loop-number : goal.invariant-loop-number
invariant-loop-number l = RunTo l.plan l.event.n l.first l.number l.numbers.items
