-- What the uses so far have changed.
use Rattle.std.proofs.Common.{◌≡◌, ℕ, ◌<◌, ◌≤◌, take, IsTrue, false}
use Rattle.flow_blocks.specs.Bits.{HasBit, AreRows, AreDependences, AreClosed, room_left}
use Rattle.flow_blocks.proofs.closing.pass.Given as goal

abbrev pub invariant-loop-from : goal.invariant-loop-from
invariant-loop-from l = record {
  rows : AreRows l.count l.rows;
  grows : (a n : ℕ) → HasBit l.fn.rows a n → HasBit l.rows a n;
  sound : AreDependences l.uses l.fn.rows → AreDependences l.uses l.rows;
  same : l.changed ≡ false → (a n : ℕ) → HasBit l.rows a n → HasBit l.fn.rows a n;
  closed : l.changed ≡ false → AreClosed (take l.from-index l.uses) l.rows;
  no_more : room_left l.rows ≤ room_left l.fn.rows;
  less : IsTrue l.changed → room_left l.rows < room_left l.fn.rows;
}
