use Rattle.std.proofs.Common.{ℕ, List, Vec, Global, []}
use Rattle.class_table.specs.Ordering.{IsSorting}
use Rattle.class_table.proofs.order.Sorting.release_all.Given as goal

abbrev pub invariant-loop-next : goal.invariant-loop-next
invariant-loop-next l = (rows : List (Vec ℕ Global)) → IsSorting rows l.fn.self 0 [] → IsSorting rows l.self l.next []
