use Rattle.std.proofs.Common.{◌≤◌, length}
use Rattle.eq_core.specs.Views.{operand_of}
use Rattle.eq_build.specs.BuildsInside.{most_gates}
use Rattle.eq_build.specs.Views.{gates_in, row_at}
use Rattle.eq_build.specs.Steps.{Sees_two}
use Rattle.tree_equations.specs.Answers.{itself}
use Rattle.tree_equations.proofs.Each.{Sofar}
use Rattle.tree_equations.proofs.Determined.{two_one}
use Rattle.tree_equations.proofs.Rising.{two_more}
use Rattle.tree_equations.proofs.seeing.twos.Given as goal

abbrev pub invariant-loop-n : goal.invariant-loop-n
invariant-loop-n l =
    let read = row_at l.rows in
    record {
      few : length l.gates.items ≤ most_gates;
      so_far : Sofar itself operand_of (Sees_two read) (two_one read) (two_more read) (gates_in l.initial.gates.items)
          l.flows l.n-index l.seen.items (gates_in l.gates.items);
    }
