use Rattle.std.proofs.Common.{[]}
use Rattle.class_table.specs.Ranks.{IsRanking}
use Rattle.class_table.proofs.ranks.ranks.Given as goal

abbrev pub invariant-loop-rank : goal.invariant-loop-rank
invariant-loop-rank l = IsRanking l.fn.rows.items l.rank l.ranks.items [] []
