use Rattle.zdd_ops.proofs.Passing.{both_first, both_second}
use Rattle.zdd_ops.proofs.cut.pass_both.Goals as goal

pub loop-lower-preserved-in-Some : goal.loop-lower-preserved-in-Some
loop-lower-preserved-in-Some c = both_second c.args.store.now.families c.args.f.n c.args.g.n c.loop-lower.left
    c.in-Some.lower c.loop-lower.invariant c.in-Some.ensures.passed

pub loop-lower-preserved : goal.loop-lower-preserved
loop-lower-preserved c = both_first c.args.store.now.families c.args.f.n c.args.g.n c.loop-lower.left
    c.in-Some-next_lower.lower c.loop-lower.invariant c.in-Some-next_lower.ensures.passed
