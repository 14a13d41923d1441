use Rattle.std.proofs.Common.{◌+◌}
use Rattle.zdd_ops.proofs.halving.+join_in.Given as goal

abbrev pub decreases-join_in : goal.decreases-join_in
decreases-join_in l = l.f.n + l.g.n
