use Rattle.std.proofs.Common.{◌↔◌, ℕ, take}
use Rattle.ar_base.specs.Lists.{IsOneOf}
use Rattle.gate_modules.specs.ShortenedInside.{event_numbers}
use Rattle.module_text.specs.Places.{IsPlaced}
use Rattle.module_text.proofs.places.spots_of.Given as goal

-- the places of the events so far
abbrev pub invariant-loop-event : goal.invariant-loop-event
invariant-loop-event l = (p : ℕ) → IsOneOf l.spots.items p ↔ IsPlaced l.places
    (event_numbers (take l.event-index l.events)) p
