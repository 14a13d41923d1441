use Rattle.std.proofs.Common.{◌≤◌, ℕ, List, length}
use Rattle.ar_base.specs.Lists.{Along}
use Rattle.ar_meaning.specs.Systems as s
use Rattle.eq_core.specs.Views.{operand_of}
use Rattle.eq_build.specs.BuildsInside.{most_gates}
use Rattle.eq_build.specs.Views.{gates_in, row_at}
use Rattle.eq_build.specs.Steps.{Sees_outside}
use Rattle.tree_equations.specs.Index.{IsLeaving}
use Rattle.tree_equations.proofs.Each.{Sofar, as_is}
use Rattle.tree_equations.proofs.Determined.{out_one}
use Rattle.tree_equations.proofs.Rising.{out_more}
use Rattle.tree_equations.proofs.seeing.outs.Given as goal

abbrev pub invariant-loop-k : goal.invariant-loop-k
invariant-loop-k l =
    let read = row_at l.rows in
    record {
      few : length l.gates.items ≤ most_gates;
      so_far : (pairs : List (s.Variable ℕ × s.Assign ℕ)) → Along (IsLeaving l.parts) l.leaving pairs
          → Sofar as_is operand_of (Sees_outside read) (out_one read) (out_more read) (gates_in l.initial.gates.items)
          pairs l.k-index l.seen.items (gates_in l.gates.items);
    }
