use Rattle.mode_search.specs.Live.{AreLive}
use Rattle.mode_search.proofs.listing.live_edges.Given as goal

abbrev pub invariant-loop-n : goal.invariant-loop-n
invariant-loop-n l = AreLive l.reaches l.n l.live.items
