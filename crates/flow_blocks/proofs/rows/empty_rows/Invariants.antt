-- All rows made so far are empty.
use Rattle.std.proofs.Common.{◌≡◌, ℕ, ◌<◌, ◌≤◌, ◌-◌, length, replicate}
use Rattle.flow_blocks.specs.Bits.{row_of}
use Rattle.flow_blocks.proofs.rows.empty_rows.Given as goal

abbrev pub invariant-loop-alloc : goal.invariant-loop-alloc
invariant-loop-alloc l = record {
  within : length l.rows.items ≤ l.count;
  each : (a : ℕ) → a < length l.rows.items
      → row_of l.rows.items a ≡ replicate l.words 0;
}

abbrev pub decreases-loop-alloc : goal.decreases-loop-alloc
decreases-loop-alloc l = l.count - length l.rows.items
