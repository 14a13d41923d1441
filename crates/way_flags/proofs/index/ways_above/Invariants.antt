use Rattle.way_flags.specs.Index.{AreAbove}
use Rattle.way_flags.proofs.index.ways_above.Given as goal

abbrev pub invariant-loop-n : goal.invariant-loop-n
invariant-loop-n l = AreAbove l.parts l.n l.pairs.items
