use Rattle.std.proofs.Common.{◌≤◌, List, length}
use Rattle.domains.specs.Domains.{values_of}
use Rattle.eq_build.specs.BuildsInside.{most_gates}
use Rattle.eq_build.specs.Views.{gates_in, row_at}
use Rattle.gts_core.specs.View.{assign_of}
use Rattle.gts_core.specs.declared.system.Assign.{Assign}
use Rattle.eq_build.specs.Steps.{Gives_target}
use Rattle.tree_equations.specs.Answers.{row_in}
use Rattle.tree_equations.specs.Index.{AreNumbersOf}
use Rattle.tree_equations.proofs.Each.{Sofar}
use Rattle.tree_equations.proofs.Determined.{given_one}
use Rattle.tree_equations.proofs.Rising.{given_more}
use Rattle.tree_equations.proofs.rounds.each_given.Given as goal

abbrev pub invariant-loop-number : goal.invariant-loop-number
invariant-loop-number l =
    let read = row_at l.rows in
    let domain = values_of l.domain in
    record {
      few : length l.gates.items ≤ most_gates;
      so_far : (picked : List Assign) → AreNumbersOf l.assigns l.numbers picked
          → Sofar assign_of row_in (Gives_target read domain) (given_one read domain) (given_more read domain)
          (gates_in l.initial.gates.items) picked l.number-index l.lists.items (gates_in l.gates.items);
    }
