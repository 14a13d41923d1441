use Rattle.std.proofs.Common.{◌≡◌, ◌+◌, ℕ, length}
use Rattle.ar_base.specs.Lists.{Stands}
use Rattle.gate_modules.specs.declared.ranges.Range.{Range}
use Rattle.module_text.specs.Spans.{IsEmpty}
use Rattle.module_text.proofs.spans.empty_ranges.Given as goal

abbrev pub invariant-loop-number : goal.invariant-loop-number
invariant-loop-number l = (length l.ranges.items + 1 ≡ l.number)
    × ((k : ℕ) (r : Range) → Stands l.ranges.items k r → IsEmpty k r)
