use Rattle.std.proofs.Common.{◌≤◌, length}
use Rattle.eq_build.specs.BuildsInside.{most_gates}
use Rattle.eq_build.specs.Views.{gates_in}
use Rattle.eq_build.specs.Steps.{Has_modes}
use Rattle.tree_equations.specs.Answers.{tree_in, row_in}
use Rattle.tree_equations.proofs.Each.{Sofar}
use Rattle.tree_equations.proofs.Determined.{modes_one}
use Rattle.tree_equations.proofs.Rising.{modes_more}
use Rattle.tree_equations.proofs.modes.modes.Given as goal

abbrev pub invariant-loop-tree : goal.invariant-loop-tree
invariant-loop-tree l = record {
  few : length l.gates.items ≤ most_gates;
  so_far : Sofar tree_in row_in Has_modes modes_one modes_more (gates_in l.initial.gates.items) l.trees l.tree-index
      l.rows.items (gates_in l.gates.items);
}
