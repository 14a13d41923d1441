-- None so far.
use Rattle.std.proofs.Common.{◌≢◌, ◌<◌, ℕ, count_by, nat_lt, get_or}
use Rattle.domains.proofs.symbol_at.Given as goal

abbrev pub invariant-loop-s : goal.invariant-loop-s
invariant-loop-s l = (k : ℕ) → k < l.s-index
    → count_by (λ x. nat_lt x (get_or l.symbols k 0)) l.symbols ≢ l.position
