use Rattle.std.proofs.Common.{◌≡◌, ◌≤◌, length}
use Rattle.eq_build.specs.BuildsInside.{most_gates}
use Rattle.eq_build.specs.Views.{gates_in, row_at}
use Rattle.gts_core.specs.View.{net_of}
use Rattle.tree_equations.proofs.Flowing.{BlocksSoFar}
use Rattle.tree_equations.proofs.rounds.all_rounds.Given as goal

abbrev pub invariant-loop-block : goal.invariant-loop-block
invariant-loop-block l = record {
  few : length l.gates.items ≤ most_gates;
  long : length l.rows.items ≡ length l.initial.rows.items;
  so_far : BlocksSoFar (net_of l.parts) l.blocks (gates_in l.initial.gates.items) (row_at l.initial.rows.items)
      l.block-index (gates_in l.gates.items) (row_at l.rows.items);
}
