use Rattle.std.proofs.Common.{ℕ, ◌-◌, ◌≤◌, length}
use Rattle.class_table.specs.Rows.{IsInRow}
use Rattle.class_table.proofs.order.empty_rows.Given as goal

abbrev pub invariant-loop-alloc : goal.invariant-loop-alloc
invariant-loop-alloc l = record {
  within : length l.rows.items ≤ l.count;
  none : (a b : ℕ) → IsInRow l.rows.items a b → ⊥;
}

abbrev pub decreases-loop-alloc : goal.decreases-loop-alloc
decreases-loop-alloc l = l.count - length l.rows.items
