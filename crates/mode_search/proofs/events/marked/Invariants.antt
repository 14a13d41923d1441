use Rattle.std.proofs.Common.{take}
use Rattle.mode_search.specs.Events.{AreMarks, plain_event_numbers}
use Rattle.mode_search.proofs.events.marked.Given as goal

abbrev pub invariant-loop-event : goal.invariant-loop-event
invariant-loop-event l = AreMarks l.count (plain_event_numbers (take l.event-index l.dropped)) l.marks.items
