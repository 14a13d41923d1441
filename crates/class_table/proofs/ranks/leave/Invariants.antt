use Rattle.std.proofs.Common.{◌+◌, ◌*◌, vec_len}
use Rattle.class_table.specs.Ranks.{count_entries}
use Rattle.class_table.proofs.ranks.leave.Given as goal

abbrev pub decreases-loop-number : goal.decreases-loop-number
decreases-loop-number l = 2 * count_entries l.rows + vec_len l.path
