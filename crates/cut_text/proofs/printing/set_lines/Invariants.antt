use Rattle.std.proofs.Common.{length}
use Rattle.ar_io.specs.WritingInside.{Leaves}
use Rattle.cut_text.specs.Tables.{lines_at, AllHaveWays}
use Rattle.cut_text.proofs.printing.set_lines.Given as goal

abbrev pub invariant-loop-events : goal.invariant-loop-events
invariant-loop-events g l =
    Leaves (g.K.Sink.state l.initial.out) (g.K.Sink.state l.out) (lines_at l.gts l.ways l.lister)
    (lines_at l.gts l.ways l.initial.lister)
    × AllHaveWays l.gts l.ways l.lister

abbrev pub decreases-loop-events : goal.decreases-loop-events
decreases-loop-events g l = length l.lister
