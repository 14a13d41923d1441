use Rattle.std.proofs.Common.{◌≡◌, ◌-◌, ◌≤◌, true, length}
use Rattle.eq_build.specs.BuildsInside.{most_gates}
use Rattle.eq_build.specs.Views.{gates_in, row_at}
use Rattle.gts_core.specs.View.{net_of}
use Rattle.eq_build.specs.Steps.{Rounds}
use Rattle.tree_equations.proofs.Flowing.{RoundsSoFar}
use Rattle.tree_equations.proofs.rounds.rounds.Given as goal

abbrev pub invariant-loop-alloc : goal.invariant-loop-alloc
invariant-loop-alloc l = record {
  few : length l.gates.items ≤ most_gates;
  long : length l.rows.items ≡ length l.initial.rows.items;
  within : l.made ≤ length l.block;
  so_far : RoundsSoFar (net_of l.parts) l.block (length l.block) (gates_in l.initial.gates.items)
      (row_at l.initial.rows.items) l.made (gates_in l.gates.items) (row_at l.rows.items);
  over : l.still ≡ true → Rounds (net_of l.parts) l.block (length l.block) (gates_in l.initial.gates.items)
      (row_at l.initial.rows.items) (row_at l.rows.items) (gates_in l.gates.items);
}

abbrev pub decreases-loop-alloc : goal.decreases-loop-alloc
decreases-loop-alloc l = length l.block - l.made
