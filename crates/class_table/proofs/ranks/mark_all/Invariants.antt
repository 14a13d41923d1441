use Rattle.std.proofs.Common.{List, ℕ, Vec, Global, take, ◌+◌, ◌≤◌, length}
use Rattle.ar_base.specs.Lists.{IsOneOf}
use Rattle.class_table.specs.Ranks.{IsRanking, IsMarked, count_unranked}
use Rattle.class_table.proofs.ranks.mark_all.Given as goal

abbrev pub invariant-loop-number : goal.invariant-loop-number
invariant-loop-number l = record {
  ranks : (rows : List (Vec ℕ Global)) (pending : List ℕ) → IsRanking rows l.rank l.fn.ranks l.fn.open.items pending
      → IsRanking rows l.rank l.ranks l.open.items pending
      × ((a : ℕ) → IsOneOf (take l.number-index l.row) a → IsMarked a l.rank l.ranks);
  left : count_unranked l.ranks + length l.open.items ≤ count_unranked l.fn.ranks + length l.fn.open.items;
}
