-- What the places so far have changed.
use Rattle.std.proofs.Common.{ℕ, ◌≤◌}
use Rattle.flow_blocks.specs.Bits.{HasBit, AreRows, AreDependences, room_left}
use Rattle.flow_blocks.proofs.closing.join_at_all.Given as goal

abbrev pub invariant-loop-place : goal.invariant-loop-place
invariant-loop-place l = record {
  rows : AreRows l.count l.rows;
  grows : (a n : ℕ) → HasBit l.fn.rows a n → HasBit l.rows a n;
  sound : AreDependences l.uses l.fn.rows → AreDependences l.uses l.rows;
  no_more : room_left l.rows ≤ room_left l.fn.rows;
}
