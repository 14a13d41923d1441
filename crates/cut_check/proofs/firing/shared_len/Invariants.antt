use Rattle.std.proofs.Common.{◌≡◌, ◌≤◌, ◌-◌, take, length}
use Rattle.cut_check.proofs.firing.shared_len.Given as goal

-- so many ways are common
abbrev pub invariant-loop-n : goal.invariant-loop-n
invariant-loop-n l = record {
  first : l.n ≤ length l.first;
  second : l.n ≤ length l.second;
  same : take l.n l.first ≡ take l.n l.second;
}

abbrev pub decreases-loop-n : goal.decreases-loop-n
decreases-loop-n l = length l.first - l.n
