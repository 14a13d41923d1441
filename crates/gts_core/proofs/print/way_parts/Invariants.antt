use Rattle.std.proofs.Common.{map, drop, codes, true}
use Rattle.ar_base.specs.Texts.{separated}
use Rattle.ar_io.specs.WritingInside.{Leaves}
use Rattle.gts_core.specs.Printed.{part_text}
use Rattle.gts_core.proofs.print.way_parts.Given as goal

abbrev pub invariant-loop-part : goal.invariant-loop-part
invariant-loop-part g l =
    Leaves (g.K.Sink.state l.initial.out) (g.K.Sink.state l.out)
    (separated l.first (codes " & ") (map (part_text l.parts) (drop l.part-index l.all)))
    (separated true (codes " & ") (map (part_text l.parts) l.all))
