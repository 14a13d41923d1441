use Rattle.std.proofs.Common.{◌≡◌, ◌≤◌, false, length, drop}
use Rattle.job_inputs.specs.Reads.{has_mark}
use Rattle.job_inputs.proofs.way_numbers.marked.Given as goal

-- no mark stands behind the place
abbrev pub invariant-loop-n : goal.invariant-loop-n
invariant-loop-n l = (l.n ≤ length l.label) × (has_mark (drop l.n l.label) ≡ false)

abbrev pub decreases-loop-n : goal.decreases-loop-n
decreases-loop-n l = l.n
