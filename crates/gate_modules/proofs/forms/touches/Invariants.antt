use Rattle.std.proofs.Common.{◌≡◌, false, take}
use Rattle.gate_modules.specs.Shortened.{touches}
use Rattle.gate_modules.specs.ShortenedInside.{event_numbers}
use Rattle.gate_modules.proofs.forms.touches.Given as goal

abbrev pub invariant-loop-event : goal.invariant-loop-event
invariant-loop-event l = touches (event_numbers (take l.event-index l.fn.taken)) l.fn.range ≡ false
