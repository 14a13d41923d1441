use Rattle.std.proofs.Common.{map}
use Rattle.ar_base.specs.NumbersInside.{EventId}
use Rattle.gts_flatten.specs.Elaborating.{Elaborated}
use Rattle.job_inputs.specs.Flat.{IsOfTree}
use Rattle.job_inputs.specs.Lines.{pieces}
use Rattle.job_inputs.specs.Reads.{bytes_left}
use Rattle.job_inputs.specs.CutLines.{is_comma}
use Rattle.job_inputs.specs.NamingInside.{AreEventsOf}
use Rattle.job_inputs.proofs.ReadSoFar.{IsRead, parts_left}
use Rattle.job_inputs.proofs.reading.read_events.Given as goal

abbrev pub invariant-loop-rest : goal.invariant-loop-rest
invariant-loop-rest l =
    (x : Elaborated) → IsOfTree x l.tree l.gts
    → IsRead x (pieces is_comma l.text) (parts_left l.rest) (map (λ (e : EventId). e.n) l.events.items)
    × AreEventsOf l.gts l.events.items

abbrev pub decreases-loop-rest : goal.decreases-loop-rest
decreases-loop-rest l = bytes_left l.rest
