use Rattle.std.proofs.Common.{◌≡◌, ℕ, List, reverse, take}
use Rattle.ar_meaning.specs.Systems.{System}
use Rattle.ar_meaning.specs.Flows.{FlowFault}
use Rattle.ar_firing.specs.Cuts.{Reaches, Conflicts}
use Rattle.gts_core.specs.View.{Views}
use Rattle.min_cuts.specs.Kept.{numbers_of_set}
use Rattle.cut_text.specs.Tables.{labels_at}
use Rattle.cut_text.proofs.conflicts.fault_met.Given as goal

abbrev pub invariant-loop-event : goal.invariant-loop-event
invariant-loop-event l =
    (l.stepper.system ≡ l.gts)
    × ((system : System ℕ) → Views l.gts system → (dropped : List ℕ) (fault : FlowFault)
    → Conflicts system dropped (reverse (labels_at l.gts l.ways (numbers_of_set l.events))) fault
    → Reaches system dropped (reverse (take l.event-index (labels_at l.gts l.ways (numbers_of_set l.events))))
    l.stepper.values)
