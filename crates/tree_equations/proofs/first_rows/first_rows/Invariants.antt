use Rattle.std.proofs.Common.{◌≡◌, ◌≤◌, ℕ, take, length, vec_len}
use Rattle.ar_base.specs.Lists.{Stands}
use Rattle.eq_build.specs.BuildsInside.{most_gates}
use Rattle.eq_build.specs.Views.{lists_in, row_at}
use Rattle.gts_core.specs.View.{variables_from}
use Rattle.eq_build.specs.Steps.{first_reading}
use Rattle.tree_equations.specs.Answers.{Entries, trees_in}
use Rattle.tree_equations.proofs.FirstReading.{reading_or}
use Rattle.tree_equations.proofs.first_rows.first_rows.Given as goal

abbrev pub invariant-loop-entries : goal.invariant-loop-entries
invariant-loop-entries l = record {
  few : length l.modes.items ≤ length l.trees;
  long : length l.rows.items ≡ length l.variables;
  small : (n : ℕ) (row : Entries) → Stands l.modes.items n row → length row.items ≤ most_gates;
  same : (x : ℕ) → first_reading (trees_in l.trees) (lists_in l.fn.modes.items) 0 (variables_from 0 l.variables) x
      ≡ reading_or (trees_in (take (length l.modes.items) l.trees)) (lists_in l.modes.items) (row_at l.rows.items) 0
      l.variables x;
}

abbrev pub decreases-loop-entries : goal.decreases-loop-entries
decreases-loop-entries l = vec_len l.modes
