use Rattle.std.proofs.Common.{◌≡◌, ◌++◌, map, take}
use Rattle.mode_search.specs.Live.{live_at}
use Rattle.mode_search.proofs.listing.add_edges.Given as goal

abbrev pub invariant-loop-edge : goal.invariant-loop-edge
invariant-loop-edge l = l.live.items ≡ l.initial.live.items ++ map (live_at l.variable) (take l.edge-index l.edges)
