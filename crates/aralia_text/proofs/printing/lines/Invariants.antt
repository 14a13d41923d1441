use Rattle.std.proofs.Common.{drop, map}
use Rattle.ar_io.specs.WritingInside.{Leaves}
use Rattle.eq_core.specs.Views.{gate_of}
use Rattle.aralia_text.specs.Texts.{gate_lines}
use Rattle.aralia_text.proofs.printing.lines.Given as goal

abbrev pub invariant-loop-n : goal.invariant-loop-n
invariant-loop-n g l =
    Leaves (g.K.Sink.state l.initial.out) (g.K.Sink.state l.out)
    (gate_lines l.events l.n (map gate_of (drop l.n l.gates)))
    (gate_lines l.events 0 (map gate_of l.gates))
