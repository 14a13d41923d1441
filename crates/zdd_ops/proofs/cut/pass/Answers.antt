use Rattle.zdd_ops.proofs.Passing.{passed_none, passed_then}
use Rattle.zdd_ops.proofs.cut.pass.Goals as goal

pub loop-lower-init : goal.loop-lower-init
loop-lower-init c = passed_none c.args.store.now.families c.args.f.n c.args.g.n c.requires.g_in

pub loop-lower-preserved : goal.loop-lower-preserved
loop-lower-preserved c = passed_then c.args.store.now.families c.args.f.n c.args.g.n c.loop-lower.left.n
    c.in-Some.lower.n c.loop-lower.invariant c.in-Some.ensures.passed
