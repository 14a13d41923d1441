use Rattle.std.proofs.Common.{◌≡◌, ◌≤◌, ◌++◌, drop, length}
use Rattle.eq_build.specs.Entries.{Built}
use Rattle.eq_build.specs.BuildsInside.{most_gates}
use Rattle.eq_build.specs.Views.{entries_in, gates_in}
use Rattle.eq_build.specs.Steps.{modes_of, entered}
use Rattle.tree_equations.specs.Answers.{edges_in, tree_in}
use Rattle.tree_equations.proofs.modes.tree_modes.Given as goal

abbrev pub invariant-loop-edge : goal.invariant-loop-edge
invariant-loop-edge l =
    let all = edges_in l.tree.edges.items in
    let rest = entered all (edges_in (drop l.edge-index l.tree.edges.items)) (gates_in l.gates.items) in
    record {
      few : length l.gates.items ≤ most_gates;
      same : ◌≡◌ {A = Built} (modes_of (tree_in l.tree) (gates_in l.fn.gates.items))
          (record { entries = entries_in l.entries.items ++ rest.entries; gates = rest.gates });
    }
