use Rattle.std.proofs.Common.{arith}
use Rattle.class_table.proofs.ranks.leave.Goals as goal

pub loop-number-smaller : goal.loop-number-smaller
loop-number-smaller c = omega (arith, c.in-None.ensures.none, c.in-Some.ensures.len)
