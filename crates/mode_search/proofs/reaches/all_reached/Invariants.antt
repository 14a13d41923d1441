use Rattle.mode_search.specs.Reaches.{AreReaches}
use Rattle.mode_search.proofs.reaches.all_reached.Given as goal

abbrev pub invariant-loop-n : goal.invariant-loop-n
invariant-loop-n l = AreReaches l.parts l.kept l.n l.reaches.items
