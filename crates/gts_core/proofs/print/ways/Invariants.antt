use Rattle.std.proofs.Common.{map, drop, slice_get}
use Rattle.std.specs.List.{concat}
use Rattle.ar_io.specs.WritingInside.{Leaves}
use Rattle.ar_base.specs.Numbers.{WayId}
use Rattle.gts_core.specs.Printed.{line_found}
use Rattle.gts_core.proofs.print.ways.Given as goal

abbrev pub invariant-loop-id : goal.invariant-loop-id
invariant-loop-id g l =
    Leaves (g.K.Sink.state l.initial.out) (g.K.Sink.state l.out)
    (concat (map (λ (w : WayId). line_found l.parts l.hidden (slice_get l.parts.ways.items w.n))
    (drop l.id-index l.all)))
    (concat (map (λ (w : WayId). line_found l.parts l.hidden (slice_get l.parts.ways.items w.n)) l.all))
