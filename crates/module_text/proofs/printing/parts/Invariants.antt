use Rattle.std.proofs.Common.{drop}
use Rattle.ar_io.specs.WritingInside.{Leaves}
use Rattle.module_text.specs.Arranged.{part_lines}
use Rattle.module_text.proofs.printing.parts.Given as goal

abbrev pub invariant-loop-one : goal.invariant-loop-one
invariant-loop-one g l = Leaves (g.K.Sink.state l.initial.out) (g.K.Sink.state l.out)
    (part_lines l.gts (drop l.one-index l.lines)) (part_lines l.gts l.lines)
