use Rattle.way_flags.specs.Index.{AreGuards}
use Rattle.way_flags.proofs.index.guards.Given as goal

abbrev pub invariant-loop-n : goal.invariant-loop-n
invariant-loop-n l = AreGuards l.parts l.n l.pairs.items
