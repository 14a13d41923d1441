use Rattle.flow_propagate.proofs.PairRuns.{AreStarts}
use Rattle.flow_propagate.proofs.pairs.starts_of.Given as goal

abbrev pub invariant-loop-variable : goal.invariant-loop-variable
invariant-loop-variable l = AreStarts l.pairs l.variable l.starts.items
