use Rattle.std.proofs.Common.{map, drop}
use Rattle.std.specs.List.{concat}
use Rattle.ar_io.specs.WritingInside.{Leaves}
use Rattle.gts_core.specs.Printed.{event_lines}
use Rattle.gts_core.proofs.print.events.Given as goal

abbrev pub invariant-loop-event : goal.invariant-loop-event
invariant-loop-event g l =
    Leaves (g.K.Sink.state l.initial.out) (g.K.Sink.state l.out)
    (concat (map (event_lines l.parts) (drop l.event-index l.all)))
    (concat (map (event_lines l.parts) l.all))
