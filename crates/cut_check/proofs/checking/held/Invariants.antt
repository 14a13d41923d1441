use Rattle.std.proofs.Common.{◌<◌, ℕ, List}
use Rattle.ar_meaning.specs.Runs.{Label}
use Rattle.cut_check.specs.Rows.{HaveBits}
use Rattle.cut_check.specs.Verdicts.{ContainsLine}
use Rattle.cut_check.proofs.checking.held.Given as goal

-- none of the lines so far may be held
abbrev pub invariant-loop-k : goal.invariant-loop-k
invariant-loop-k l = (lines : List (List Label)) → HaveBits lines l.rows → (j : ℕ) → j < l.k → ContainsLine lines l.n j
    → ⊥
