use Rattle.std.proofs.Common.{◌+◌}
use Rattle.zdd_ops.specs.Cuts.{ArePassed}
use Rattle.zdd_ops.specs.declared.memo.Join.TheVariants.{Meet}
use Rattle.zdd_ops.proofs.cut.pass_both.Given as goal

abbrev pub invariant-loop-lower : goal.invariant-loop-lower
invariant-loop-lower l = ArePassed l.store.families Meet l.fn.f.n l.fn.g.n l.left

abbrev pub decreases-loop-lower : goal.decreases-loop-lower
decreases-loop-lower l = l.left.f.n + l.left.g.n
