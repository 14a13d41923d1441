use Rattle.mode_search.specs.Kept.{AreKeptWaysBefore}
use Rattle.mode_search.proofs.kept.kept_ways.Given as goal

abbrev pub invariant-loop-n : goal.invariant-loop-n
invariant-loop-n l = AreKeptWaysBefore l.parts l.marks l.n 0 l.kept.items
