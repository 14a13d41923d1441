use Rattle.std.proofs.Common.{◌≤◌, length}
use Rattle.eq_build.specs.BuildsInside.{most_gates}
use Rattle.eq_build.specs.Views.{gates_in, row_at}
use Rattle.gts_core.specs.View.{variables_from}
use Rattle.eq_build.specs.Steps.{Totals_of, flows_from}
use Rattle.tree_equations.specs.Answers.{row_in}
use Rattle.tree_equations.proofs.Each.{Sofar, as_is}
use Rattle.tree_equations.proofs.Determined.{total_one}
use Rattle.tree_equations.proofs.Rising.{total_more}
use Rattle.tree_equations.proofs.totals.totals.Given as goal

abbrev pub invariant-loop-n : goal.invariant-loop-n
invariant-loop-n l =
    let read = row_at l.rows in
    record {
      few : length l.gates.items ≤ most_gates;
      so_far : Sofar as_is row_in (Totals_of read) (total_one read) (total_more read) (gates_in l.initial.gates.items)
          (flows_from 0 (variables_from 0 l.variables)) l.n-index l.totals.items (gates_in l.gates.items);
    }
