use Rattle.std.proofs.Common.{vec_len}
use Rattle.sync_expand.proofs.search.leave.Given as goal

abbrev pub decreases-loop-last : goal.decreases-loop-last
decreases-loop-last l = vec_len l.search.waiting
