use Rattle.std.proofs.Common.{◌↔◌, ℕ, take}
use Rattle.ar_base.specs.Lists.{IsOneOf}
use Rattle.flow_blocks.specs.Bits.{IsSet}
use Rattle.cut_check.specs.Flat.{flat_event_numbers}
use Rattle.cut_check.proofs.lookup.put_events.Given as goal

-- the row is that of the events so far
abbrev pub invariant-loop-event : goal.invariant-loop-event
invariant-loop-event l = (n : ℕ) → IsSet l.row n ↔ IsOneOf (flat_event_numbers (take l.event-index l.events)) n
