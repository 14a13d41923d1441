use Rattle.std.proofs.Common.{◌≤◌, length}
use Rattle.eq_core.specs.Views.{operand_of}
use Rattle.eq_build.specs.BuildsInside.{most_gates}
use Rattle.eq_build.specs.Views.{gates_in, row_at}
use Rattle.gts_core.specs.View.{condition_of}
use Rattle.tree_equations.proofs.Each.{Sofar}
use Rattle.tree_equations.proofs.Giving.{Tests, tests_one, tests_more}
use Rattle.tree_equations.proofs.assigning.conditions.Given as goal

abbrev pub invariant-loop-test : goal.invariant-loop-test
invariant-loop-test l = record {
  few : length l.gates.items ≤ most_gates;
  so_far : Sofar condition_of operand_of (Tests (row_at l.rows)) (tests_one (row_at l.rows))
      (tests_more (row_at l.rows))
      (gates_in l.initial.gates.items) l.conditions l.test-index l.operands.items (gates_in l.gates.items);
}
