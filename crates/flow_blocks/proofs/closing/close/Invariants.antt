-- What the turns so far have changed.
use Rattle.std.proofs.Common.{ℕ}
use Rattle.flow_blocks.specs.Bits.{HasBit, AreRows, AreDependences, room_left}
use Rattle.flow_blocks.proofs.closing.close.Given as goal

abbrev pub invariant-loop-alloc : goal.invariant-loop-alloc
invariant-loop-alloc l = record {
  rows : AreRows l.count l.rows;
  grows : (a n : ℕ) → HasBit l.fn.rows a n → HasBit l.rows a n;
  sound : AreDependences l.uses l.fn.rows → AreDependences l.uses l.rows;
}

abbrev pub decreases-loop-alloc : goal.decreases-loop-alloc
decreases-loop-alloc l = room_left l.rows
