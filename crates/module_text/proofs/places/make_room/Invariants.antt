use Rattle.std.proofs.Common.{◌≡◌, ◌-◌, ℕ, length}
use Rattle.flow_blocks.specs.Bits.{row_of}
use Rattle.module_text.proofs.places.make_room.Given as goal

-- the lists are those from before, and empty ones
abbrev pub invariant-loop-alloc : goal.invariant-loop-alloc
invariant-loop-alloc l = (e : ℕ) → row_of l.places.items e ≡ row_of l.initial.places.items e

abbrev pub decreases-loop-alloc : goal.decreases-loop-alloc
decreases-loop-alloc l = l.count - length l.places.items
