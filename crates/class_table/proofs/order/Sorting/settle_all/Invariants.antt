use Rattle.std.proofs.Common.{ℕ, List, Vec, Global, drop}
use Rattle.class_table.specs.Ordering.{IsSorting}
use Rattle.class_table.proofs.order.Sorting.settle_all.Given as goal

abbrev pub invariant-loop-body : goal.invariant-loop-body
invariant-loop-body l = (rows : List (Vec ℕ Global)) (next : ℕ) → IsSorting rows l.fn.self next l.bodies
    → IsSorting rows l.self next (drop l.body-index l.bodies)
