use Rattle.std.proofs.Common.{◌≡◌, ◌<◌, ℕ}
use Rattle.ar_base.specs.Lists.{Stands}
use Rattle.eq_build.specs.Views.{row_at}
use Rattle.tree_equations.specs.Answers.{Entries, row_in}
use Rattle.tree_equations.proofs.rows.are_rows.Given as goal

abbrev pub invariant-loop-k : goal.invariant-loop-k
invariant-loop-k l = (j n : ℕ) (r : Entries) → j < l.k → Stands l.new j r → Stands l.numbers j n
    → row_at l.rows n ≡ row_in r
