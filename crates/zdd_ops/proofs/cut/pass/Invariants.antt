use Rattle.zdd_ops.specs.Cuts.{IsLeftOf}
use Rattle.zdd_ops.proofs.cut.pass.Given as goal

abbrev pub invariant-loop-lower : goal.invariant-loop-lower
invariant-loop-lower l = IsLeftOf l.store.families l.f.n l.fn.g.n l.left.n

abbrev pub decreases-loop-lower : goal.decreases-loop-lower
decreases-loop-lower l = l.left.n
