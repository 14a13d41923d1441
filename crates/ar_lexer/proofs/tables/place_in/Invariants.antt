use Rattle.std.proofs.Common.{◌≡◌, ℕ, ◌<◌, get_or, map, false, []}
use Rattle.std.specs.Str.{bytes_eq}
use Rattle.ar_lexer.proofs.tables.place_in.Given as goal

abbrev pub invariant-loop-place : goal.invariant-loop-place
invariant-loop-place l = (k : ℕ) → k < l.place
    → bytes_eq (get_or (map (λ entry. entry.now) l.table) k []) l.text ≡ false
