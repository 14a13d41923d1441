use Rattle.std.proofs.Common.{◌≤◌, length}
use Rattle.eq_build.specs.BuildsInside.{most_gates}
use Rattle.eq_build.specs.Views.{gates_in, row_at}
use Rattle.gts_core.specs.View.{net_of}
use Rattle.eq_build.specs.Steps.{RoundOf}
use Rattle.tree_equations.specs.Answers.{row_in, itself}
use Rattle.tree_equations.proofs.Each.{Sofar}
use Rattle.tree_equations.proofs.Determined.{round_one}
use Rattle.tree_equations.proofs.Rising.{round_more}
use Rattle.tree_equations.proofs.rounds.round.Given as goal

abbrev pub invariant-loop-n : goal.invariant-loop-n
invariant-loop-n l =
    let read = row_at l.rows in
    let net = net_of l.parts in
    record {
      few : length l.gates.items ≤ most_gates;
      so_far : Sofar itself row_in (RoundOf net read) (round_one read net) (round_more read net)
          (gates_in l.initial.gates.items) l.block l.n-index l.new.items (gates_in l.gates.items);
    }
