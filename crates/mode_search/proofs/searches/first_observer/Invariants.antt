use Rattle.std.proofs.Common.{◌<◌, ℕ}
use Rattle.mode_search.specs.Wide.{IsWideObserver}
use Rattle.mode_search.proofs.searches.first_observer.Given as goal

abbrev pub invariant-loop-n : goal.invariant-loop-n
invariant-loop-n l = (k : ℕ) → k < l.n → IsWideObserver l.parts k → ⊥
