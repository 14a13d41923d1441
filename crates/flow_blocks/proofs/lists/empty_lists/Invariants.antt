-- All lists made so far are empty.
use Rattle.std.proofs.Common.{◌≡◌, ℕ, ◌<◌, ◌≤◌, ◌-◌, [], length}
use Rattle.flow_blocks.specs.Bits.{row_of}
use Rattle.flow_blocks.proofs.lists.empty_lists.Given as goal

abbrev pub invariant-loop-alloc : goal.invariant-loop-alloc
invariant-loop-alloc l = record {
  within : length l.lists.items ≤ l.count;
  each : (a : ℕ) → a < length l.lists.items
      → row_of l.lists.items a ≡ [];
}

abbrev pub decreases-loop-alloc : goal.decreases-loop-alloc
decreases-loop-alloc l = l.count - length l.lists.items
