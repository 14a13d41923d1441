use Rattle.std.proofs.Common.{◌≡◌, ℕ, ◌<◌, ◌≤◌, ◌-◌, length, get_or, true}
use Rattle.std.specs.Prelude.{not}
use Rattle.ar_lexer.specs.Tokens.{is_line_feed}
use Rattle.ar_lexer.proofs.runs.line_len.Given as goal

abbrev pub invariant-loop-n : goal.invariant-loop-n
invariant-loop-n l = (l.n ≤ length l.bytes) × ((k : ℕ) → k < l.n → not (is_line_feed (get_or l.bytes k 0)) ≡ true)

abbrev pub decreases-loop-n : goal.decreases-loop-n
decreases-loop-n l = length l.bytes - l.n
