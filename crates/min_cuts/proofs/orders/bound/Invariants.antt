use Rattle.std.proofs.Common.{ℕ, ◌<◌}
use Rattle.ar_base.specs.Lists.{Stands}
use Rattle.min_cuts.specs.Kept.{numbers_of_set}
use Rattle.min_cuts.proofs.orders.bound.Given as goal

abbrev pub invariant-loop-event : goal.invariant-loop-event
invariant-loop-event l = (k e : ℕ) → k < l.event-index → Stands (numbers_of_set l.order) k e → e < l.bound
