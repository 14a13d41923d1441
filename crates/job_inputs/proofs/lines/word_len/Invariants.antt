use Rattle.std.proofs.Common.{◌≡◌, ℕ, ◌<◌, ◌≤◌, ◌-◌, length, get_or, true, not}
use Rattle.job_inputs.specs.Lines.{is_space_or_tab}
use Rattle.job_inputs.proofs.lines.word_len.Given as goal

-- the bytes so far belong to the run
abbrev pub invariant-loop-n : goal.invariant-loop-n
invariant-loop-n l = (l.n ≤ length l.bytes) × ((k : ℕ) → k < l.n → not (is_space_or_tab (get_or l.bytes k 0)) ≡ true)

abbrev pub decreases-loop-n : goal.decreases-loop-n
decreases-loop-n l = length l.bytes - l.n
