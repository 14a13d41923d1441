use Rattle.std.proofs.Common.{◌<◌, ℕ}
use Rattle.mode_search.specs.Reaches.{IsAgainAt}
use Rattle.mode_search.proofs.reaches.least_again.Given as goal

abbrev pub invariant-loop-n : goal.invariant-loop-n
invariant-loop-n l = (k : ℕ) → k < l.n → IsAgainAt l.reaches k → ⊥
