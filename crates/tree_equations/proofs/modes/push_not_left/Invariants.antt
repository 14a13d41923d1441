use Rattle.std.proofs.Common.{◌≡◌, ◌++◌, drop}
use Rattle.eq_build.specs.Views.{operands_in}
use Rattle.eq_build.specs.Steps.{not_left}
use Rattle.tree_equations.specs.Answers.{edges_in}
use Rattle.tree_equations.proofs.modes.push_not_left.Given as goal

abbrev pub invariant-loop-edge : goal.invariant-loop-edge
invariant-loop-edge l =
    operands_in l.operands.items ++ not_left l.mode (edges_in (drop l.edge-index l.edges))
    ≡ operands_in l.initial.operands.items ++ not_left l.mode (edges_in l.edges)
