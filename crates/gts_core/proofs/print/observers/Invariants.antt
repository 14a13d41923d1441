use Rattle.std.proofs.Common.{map, drop}
use Rattle.std.specs.List.{concat}
use Rattle.ar_io.specs.WritingInside.{Leaves}
use Rattle.gts_core.specs.Printed.{flat_observer_line}
use Rattle.gts_core.proofs.print.observers.Given as goal

abbrev pub invariant-loop-o : goal.invariant-loop-o
invariant-loop-o g l =
    Leaves (g.K.Sink.state l.initial.out) (g.K.Sink.state l.out)
    (concat (map (flat_observer_line l.parts) (drop l.o-index l.all)))
    (concat (map (flat_observer_line l.parts) l.all))
