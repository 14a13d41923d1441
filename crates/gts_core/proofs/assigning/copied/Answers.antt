use Rattle.gts_core.proofs.ActForms.{conditions_start, borrowed_next}
use Rattle.gts_core.proofs.assigning.copied.Goals as goal

pub loop-test-init : goal.loop-test-init
loop-test-init c = conditions_start c.new-out.result.items c.new-out.ensures.items

pub loop-test-preserved : goal.loop-test-preserved
loop-test-preserved c =
    borrowed_next c.args.when.now c.loop-test.test-index c.loop-test-item.result c.in_ok-test.test
    c.loop-test.out.items c.push.new.self.items c.loop-test-test.true c.loop-test-item.is c.loop-test.invariant
    c.in_ok-test.ensures c.in_ok-push.ensures.items
