use Rattle.std.proofs.Common.{◌≡◌, ℕ, ◌<◌, ◌≤◌, ◌+◌, ◌-◌, length, get_or}
use Rattle.ar_lexer.proofs.piece.close_of.Given as goal

abbrev pub invariant-loop-n : goal.invariant-loop-n
invariant-loop-n l = record {
  within : l.n ≤ length l.bytes;
  not_closed : (k : ℕ) → k < l.n → get_or l.bytes k 0 ≡ 42 → get_or l.bytes (k + 1) 0 ≡ 47 → ⊥;
}

abbrev pub decreases-loop-n : goal.decreases-loop-n
decreases-loop-n l = length l.bytes - l.n
