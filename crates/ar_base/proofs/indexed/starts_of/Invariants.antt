use Rattle.ar_base.proofs.PairRuns.{AreStarts}
use Rattle.ar_base.proofs.indexed.starts_of.Given as goal

abbrev pub invariant-loop-first : goal.invariant-loop-first
invariant-loop-first l = AreStarts l.pairs l.first l.starts.items
