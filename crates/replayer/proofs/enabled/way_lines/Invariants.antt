use Rattle.std.proofs.Common.{drop}
use Rattle.ar_io.specs.WritingInside.{Leaves}
use Rattle.replayer.specs.Printing.{way_lines}
use Rattle.replayer.proofs.enabled.way_lines.Given as goal

abbrev pub invariant-loop-way : goal.invariant-loop-way
invariant-loop-way g l =
    Leaves (g.K.Sink.state l.initial.out) (g.K.Sink.state l.out) (way_lines l.gts (drop l.way-index l.ways))
    (way_lines l.gts l.ways)
