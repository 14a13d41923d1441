use Rattle.std.proofs.Common.{◌≡◌, take}
use Rattle.replayer.specs.Listing.{visible_ways}
use Rattle.replayer.proofs.ready.visible_ways.Given as goal

-- the visible ways of the events so far
abbrev pub invariant-loop-event : goal.invariant-loop-event
invariant-loop-event l = l.ways.items ≡ visible_ways (take l.event-index l.events)
