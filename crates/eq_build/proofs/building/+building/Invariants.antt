use Rattle.std.proofs.Common.{◌≤◌, length}
use Rattle.eq_build.specs.Builds.{Builds_each, Builds_parts, Builds_cases}
use Rattle.eq_build.specs.BuildsInside.{most_gates}
use Rattle.eq_build.specs.Views.{lists_in, signed_parts_in, cases_in, gates_in, row_read}
use Rattle.eq_build.proofs.Threading.{SoFar}
use Rattle.eq_build.proofs.building.+building.Given as goal

abbrev pub invariant-each-loop-e : goal.invariant-each-loop-e
invariant-each-loop-e l = record {
  few : length l.gates.items ≤ most_gates;
  so_far : SoFar (Builds_each (row_read l.rows)) (gates_in l.initial.gates.items) l.es l.e-index
      (lists_in l.operands.items) (gates_in l.gates.items);
}

abbrev pub invariant-signed-loop-plus : goal.invariant-signed-loop-plus
invariant-signed-loop-plus l = record {
  few : length l.gates.items ≤ most_gates;
  so_far : SoFar (Builds_parts (row_read l.rows)) (gates_in l.initial.gates.items) l.parts l.plus-index
      (signed_parts_in l.operands.items) (gates_in l.gates.items);
}

abbrev pub invariant-tested-loop-test : goal.invariant-tested-loop-test
invariant-tested-loop-test l = record {
  few : length l.gates.items ≤ most_gates;
  so_far : SoFar (Builds_cases (row_read l.rows)) (gates_in l.initial.gates.items) l.cases l.test-index
      (cases_in l.pairs.items) (gates_in l.gates.items);
}
