use Rattle.std.proofs.Common.{◌≡◌, ◌≤◌, length, vec_len}
use Rattle.eq_build.specs.Entries.{chosen}
use Rattle.eq_build.specs.BuildsInside.{most_gates}
use Rattle.eq_build.specs.Views.{entries_in, gates_in, cases_in}
use Rattle.eq_build.proofs.forms.chosen.Given as goal

abbrev pub invariant-loop-test : goal.invariant-loop-test
invariant-loop-test l = record {
  few : length l.gates.items ≤ most_gates;
  same : chosen (gates_in l.initial.gates.items) (cases_in l.initial.cases.items) (entries_in l.initial.so_far.items)
      ≡ chosen (gates_in l.gates.items) (cases_in l.cases.items) (entries_in l.so_far.items);
}

abbrev pub decreases-loop-test : goal.decreases-loop-test
decreases-loop-test l = vec_len l.cases
