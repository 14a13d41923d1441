use Rattle.std.proofs.Common.{take}
use Rattle.mode_diagrams.specs.Lacking.{PutsTree}
use Rattle.event_order.proofs.places.put_all.Given as goal

-- the place is put for the events of the edges so far
abbrev pub invariant-loop-edge : goal.invariant-loop-edge
invariant-loop-edge l = PutsTree (take l.edge-index l.fn.edges) l.fn.place l.fn.places l.places
