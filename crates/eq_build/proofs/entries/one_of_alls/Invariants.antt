use Rattle.std.proofs.Common.{◌≡◌, ◌≤◌, ◌++◌, drop, length}
use Rattle.eq_build.specs.Entries.{all_of_each}
use Rattle.eq_build.specs.BuildsInside.{most_gates}
use Rattle.eq_build.specs.Views.{terms_in, operands_in, gates_in}
use Rattle.eq_build.proofs.entries.one_of_alls.Given as goal

abbrev pub invariant-loop-term : goal.invariant-loop-term
invariant-loop-term l =
    let rest = all_of_each (gates_in l.gates.items) (terms_in (drop l.term-index l.terms)) in
    record {
      few : length l.gates.items ≤ most_gates;
      same : all_of_each (gates_in l.initial.gates.items) (terms_in l.terms)
          ≡ record { operands = operands_in l.all.items ++ rest.operands; gates = rest.gates };
    }
