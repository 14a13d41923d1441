use Rattle.std.proofs.Common.{drop}
use Rattle.ar_meaning.specs.Dependence.{Tests}
use Rattle.gts_core.proofs.Added.{Remains}
use Rattle.gts_core.proofs.names.add_tests.Given as goal

abbrev pub invariant-loop-test : goal.invariant-loop-test
invariant-loop-test l = Remains (λ x. Tests x (drop l.test-index l.tests)) (λ x. Tests x l.tests) l.initial.found.items
    l.found.items
