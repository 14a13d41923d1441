use Rattle.mode_diagrams.specs.Lacking.{HavePlacedEvents}
use Rattle.event_order.proofs.places.places.Given as goal

-- the trees so far have their places
abbrev pub invariant-loop-place : goal.invariant-loop-place
invariant-loop-place l = HavePlacedEvents l.fn.trees l.place l.places
