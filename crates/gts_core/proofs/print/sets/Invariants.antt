use Rattle.std.proofs.Common.{map, drop, codes, true}
use Rattle.ar_base.specs.Texts.{separated}
use Rattle.ar_io.specs.WritingInside.{Leaves}
use Rattle.gts_core.specs.Printed.{set_text}
use Rattle.gts_core.proofs.print.sets.Given as goal

abbrev pub invariant-loop-assign : goal.invariant-loop-assign
invariant-loop-assign g l =
    Leaves (g.K.Sink.state l.initial.out) (g.K.Sink.state l.out)
    (separated l.first (codes ", ") (map (set_text l.parts) (drop l.assign-index l.assigns)))
    (separated true (codes ", ") (map (set_text l.parts) l.assigns))
