use Rattle.std.proofs.Common.{◌<◌, ℕ}
use Rattle.mode_search.specs.Reaches.{IsWrongAt}
use Rattle.mode_search.proofs.reaches.least_wrong.Given as goal

abbrev pub invariant-loop-n : goal.invariant-loop-n
invariant-loop-n l = (k : ℕ) → k < l.n → IsWrongAt l.reaches k → ⊥
