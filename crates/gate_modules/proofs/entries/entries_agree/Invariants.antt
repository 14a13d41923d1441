use Rattle.std.proofs.Common.{◌≡◌, ℕ, length, take}
use Rattle.ar_base.specs.Lists.{IsOneOf}
use Rattle.zdd_nodes.specs.Bounds.{node_numbers}
use Rattle.gate_modules.specs.Walked.{AreTwins, EntryAgrees}
use Rattle.gate_modules.proofs.entries.entries_agree.Given as goal

abbrev pub invariant-loop-entry : goal.invariant-loop-entry
invariant-loop-entry l =
    AreTwins l.store l.twins × (length l.twins ≡ length l.fn.twins)
    × ((e : ℕ) → IsOneOf (node_numbers (take l.entry-index l.fn.entries)) e
    → EntryAgrees l.store l.fn.to l.fn.reference.node.n l.fn.reference.end.n e)
