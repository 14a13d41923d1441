use Rattle.std.proofs.Common.{◌+◌}
use Rattle.zdd_ops.proofs.halving.+without_in.Given as goal

abbrev pub decreases-without_in : goal.decreases-without_in
decreases-without_in l = l.f.n + l.g.n
