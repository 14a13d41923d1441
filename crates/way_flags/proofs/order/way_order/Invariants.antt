use Rattle.std.proofs.Common.{◌≡◌, ◌<◌, ℕ, true}
use Rattle.way_flags.specs.Parts.{flag_at}
use Rattle.way_flags.specs.Ways.{IsPlacing}
use Rattle.way_flags.proofs.order.way_order.Given as goal

abbrev pub invariant-loop-n : goal.invariant-loop-n
invariant-loop-n l = IsPlacing l.parts l.placing.order.items l.placing.placed.items
    × ((k : ℕ) → k < l.n → flag_at l.placing.placed.items k ≡ true)
