use Rattle.std.proofs.Common.{ℕ, take}
use Rattle.ar_base.specs.Lists.{IsOneOf}
use Rattle.flow_blocks.specs.Bits.{IsSet}
use Rattle.cut_check.specs.Flat.{flat_event_numbers}
use Rattle.cut_check.proofs.lookup.has_all_bits.Given as goal

-- the row has the bits of the events so far
abbrev pub invariant-loop-event : goal.invariant-loop-event
invariant-loop-event l = (n : ℕ) → IsOneOf (flat_event_numbers (take l.event-index l.events)) n → IsSet l.row n
