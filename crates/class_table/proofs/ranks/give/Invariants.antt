use Rattle.std.proofs.Common.{List, ℕ, Vec, Global, [], ◌+◌, vec_len}
use Rattle.class_table.specs.Ranks.{AreTurned, IsRanking, count_unranked}
use Rattle.class_table.proofs.ranks.give.Given as goal

abbrev pub invariant-loop-next : goal.invariant-loop-next
invariant-loop-next l = (rows : List (Vec ℕ Global)) → AreTurned rows l.sources → IsRanking rows l.rank l.fn.ranks [] []
    → IsRanking rows l.rank l.ranks l.open.items []

abbrev pub decreases-loop-next : goal.decreases-loop-next
decreases-loop-next l = count_unranked l.ranks + vec_len l.open
