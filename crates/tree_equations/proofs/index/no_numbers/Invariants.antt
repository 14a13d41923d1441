use Rattle.std.proofs.Common.{◌≡◌, ℕ, [], length}
use Rattle.flow_blocks.specs.Bits.{row_of}
use Rattle.tree_equations.proofs.index.no_numbers.Given as goal

abbrev pub invariant-loop : goal.invariant-loop
invariant-loop l = record {
  long : length l.rows.items ≡ l.counter;
  none : (n : ℕ) → row_of l.rows.items n ≡ [];
}
