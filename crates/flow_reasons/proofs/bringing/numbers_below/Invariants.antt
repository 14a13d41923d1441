use Rattle.std.proofs.Common.{◌<◌, ◌↔◌, ℕ}
use Rattle.ar_base.specs.Lists.{IsOneOf}
use Rattle.ar_base.specs.Sets.{Ascends}
use Rattle.flow_reasons.proofs.bringing.numbers_below.Given as goal

abbrev pub invariant-loop-number : goal.invariant-loop-number
invariant-loop-number l = Ascends l.numbers.items × ((n : ℕ) → (IsOneOf l.numbers.items n ↔ (n < l.number)))
