use Rattle.std.proofs.Common.{◌≡◌, ◌<◌, ℕ, length}
use Rattle.ar_base.specs.Lists.{Stands}
use Rattle.sync_expand.specs.Plans.{first_of}
use Rattle.sync_expand.proofs.planning.firsts_of.Given as goal

abbrev pub invariant-loop-count : goal.invariant-loop-count
invariant-loop-count l = (l.next ≡ first_of l.counts l.count-index) × (length l.firsts.items ≡ l.count-index)
    × ((k : ℕ) → k < l.count-index → Stands l.firsts.items k (first_of l.counts k))
