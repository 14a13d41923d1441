use Rattle.std.proofs.Common.{◌≡◌, not, filter, take}
use Rattle.gate_modules.specs.Shortened.{is_covered}
use Rattle.gate_modules.specs.ShortenedInside.{event_numbers}
use Rattle.gate_modules.proofs.forms.free_events.Given as goal

abbrev pub invariant-loop-event : goal.invariant-loop-event
invariant-loop-event l = event_numbers l.events.items
    ≡ filter (λ e. not (is_covered l.fn.chosen e)) (event_numbers (take l.event-index l.fn.taken))
