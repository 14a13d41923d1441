use Rattle.std.proofs.Common.{take}
use Rattle.cut_check.specs.Flat.{flat_event_numbers}
use Rattle.cut_check.specs.Rows.{AreOpenEvents}
use Rattle.cut_check.proofs.rows.open_events.Given as goal

-- the events so far are dropped
abbrev pub invariant-loop-event : goal.invariant-loop-event
invariant-loop-event l = AreOpenEvents l.parts (flat_event_numbers (take l.event-index l.dropped)) l.allowed.items
