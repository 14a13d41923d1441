use Rattle.gts_core.proofs.Added as added
use Rattle.gts_core.proofs.NamedVariables as named
use Rattle.gts_core.proofs.names.add_tests.Goals as goal

pub loop-test-init : goal.loop-test-init
loop-test-init c = added.remains_start _ _

pub loop-test-preserved : goal.loop-test-preserved
loop-test-preserved c = named.tests_on _ _ _ c.args.tests.now c.loop-test.test-index c.loop-test-item.result
    c.loop-test-test.true c.loop-test-item.is c.loop-test.invariant c.in_ok-add_named.ensures

pub returns : goal.returns
returns c = named.tests_all _ _ c.args.tests.now c.loop-test.test-index c.loop-test-test.false c.loop-test.invariant
