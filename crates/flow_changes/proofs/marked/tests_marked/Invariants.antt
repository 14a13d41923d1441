use Rattle.std.proofs.Common.{drop}
use Rattle.ar_meaning.specs.Dependence.{Tests}
use Rattle.flow_changes.proofs.NamedMarks.{Remains}
use Rattle.flow_changes.proofs.marked.tests_marked.Given as goal

abbrev pub invariant-loop-test : goal.invariant-loop-test
invariant-loop-test l = Remains l.marks (λ x. Tests x (drop l.test-index l.tests)) (λ x. Tests x l.tests)
