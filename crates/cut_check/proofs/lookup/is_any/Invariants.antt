use Rattle.std.proofs.Common.{◌↔◌, ℕ, ◌<◌, List}
use Rattle.ar_base.specs.Lists.{Stands, IsOneOf}
use Rattle.ar_meaning.specs.Runs.{Label}
use Rattle.flow_blocks.specs.Bits.{IsSet}
use Rattle.cut_check.specs.Flat.{flat_event_numbers}
use Rattle.cut_check.specs.Rows.{HaveBits}
use Rattle.cut_check.proofs.LookupLemmas.{IsSame}
use Rattle.cut_check.proofs.lookup.is_any.Given as goal

-- the lines so far have other events
abbrev pub invariant-loop-row : goal.invariant-loop-row
invariant-loop-row l = (lines : List (List Label)) → HaveBits lines l.rows
    → ((n : ℕ) → IsSet l.asked n ↔ IsOneOf (flat_event_numbers l.events) n) → (k : ℕ) (ls : List Label) → k < l.row-index
    → Stands lines k ls → IsSame (flat_event_numbers l.events) ls → ⊥
