use Rattle.std.proofs.Common.{◌≡◌, ◌≤◌, ℕ, length, take, vec_len}
use Rattle.eq_build.specs.Views.{lists_in, row_at}
use Rattle.eq_build.specs.Steps.{updated}
use Rattle.tree_equations.proofs.rows.put_rows.Given as goal

abbrev pub invariant-loop-row : goal.invariant-loop-row
invariant-loop-row l = record {
  long : length l.rows.items ≡ length l.initial.rows.items;
  few : length l.new.items ≤ length l.numbers;
  same : (x : ℕ) → updated (row_at l.initial.rows.items) l.numbers (lists_in l.initial.new.items) x
      ≡ updated (row_at l.rows.items) (take (length l.new.items) l.numbers) (lists_in l.new.items) x;
}

abbrev pub decreases-loop-row : goal.decreases-loop-row
decreases-loop-row l = vec_len l.new
