use Rattle.std.proofs.Common.{◌<◌, ℕ}
use Rattle.mode_search.specs.Events.{IsStateless}
use Rattle.mode_search.proofs.events.first_stateless.Given as goal

abbrev pub invariant-loop-unit : goal.invariant-loop-unit
invariant-loop-unit l = (k : ℕ) → k < l.unit → IsStateless l.moving l.firsts k → ⊥
