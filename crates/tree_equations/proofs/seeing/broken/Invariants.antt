use Rattle.std.proofs.Common.{◌≤◌, length}
use Rattle.eq_core.specs.Views.{operand_of}
use Rattle.eq_build.specs.BuildsInside.{most_gates}
use Rattle.eq_build.specs.Views.{gates_in, row_at}
use Rattle.gts_core.specs.View.{assign_of}
use Rattle.eq_build.specs.Steps.{Sees_broken}
use Rattle.tree_equations.proofs.Each.{Sofar}
use Rattle.tree_equations.proofs.Determined.{broken_one}
use Rattle.tree_equations.proofs.Rising.{broken_more}
use Rattle.tree_equations.proofs.seeing.broken.Given as goal

abbrev pub invariant-loop-assign : goal.invariant-loop-assign
invariant-loop-assign l =
    let read = row_at l.rows in
    record {
      few : length l.gates.items ≤ most_gates;
      so_far : Sofar assign_of operand_of (Sees_broken read) (broken_one read) (broken_more read)
          (gates_in l.initial.gates.items) l.assigns l.assign-index l.seen.items (gates_in l.gates.items);
    }
