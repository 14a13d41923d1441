use Rattle.std.proofs.Common.{◌≡◌, ℕ, ◌<◌, ◌≤◌, ◌-◌, length, get_or, true}
use Rattle.aralia_text.specs.Readings.{is_path_byte}
use Rattle.aralia_text.proofs.fronts.path_len.Given as goal

abbrev pub invariant-loop-n : goal.invariant-loop-n
invariant-loop-n l = (l.n ≤ length l.bytes) × ((k : ℕ) → k < l.n → is_path_byte (get_or l.bytes k 0) ≡ true)

abbrev pub decreases-loop-n : goal.decreases-loop-n
decreases-loop-n l = length l.bytes - l.n
