use Rattle.flow_changes.proofs.NamedMarks.{remains_start, tests_on, tests_not, tests_all}
use Rattle.ar_meaning.proofs.Found.{holds, fails}
use Rattle.flow_changes.proofs.marked.tests_marked.Goals as goal

pub loop-test-init : goal.loop-test-init
loop-test-init c = remains_start _ _

pub loop-test-preserved : goal.loop-test-preserved
loop-test-preserved c =
    tests_on c.args.marks.now c.args.tests.now c.loop-test.test-index c.loop-test-item.result c.loop-test-test.true
    c.loop-test-item.is c.loop-test.invariant
    (holds _ c.is_marked.result c.if-not-is_marked.false c.is_marked.ensures)

pub returns : goal.returns
returns c = tests_all c.args.marks.now c.args.tests.now c.loop-test.test-index c.loop-test-test.false
    c.loop-test.invariant

pub returns-then-not-is_marked : goal.returns-then-not-is_marked
returns-then-not-is_marked c =
    tests_not c.args.marks.now c.args.tests.now c.loop-test.test-index c.loop-test-item.result c.loop-test-test.true
    c.loop-test-item.is c.loop-test.invariant
    (fails _ c.is_marked.result c.if-not-is_marked.true c.is_marked.ensures)
