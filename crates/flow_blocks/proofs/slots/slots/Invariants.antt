-- The numbers so far, by their slots.
use Rattle.flow_blocks.specs.Slots.{AreSlots}
use Rattle.flow_blocks.proofs.slots.slots.Given as goal

abbrev pub invariant-loop-number : goal.invariant-loop-number
invariant-loop-number l = AreSlots l.count l.rows l.number l.slots.items
