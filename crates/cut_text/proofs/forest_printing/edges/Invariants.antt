use Rattle.std.proofs.Common.{drop}
use Rattle.ar_io.specs.WritingInside.{Leaves}
use Rattle.cut_text.specs.ForestPrinted.{edge_lines}
use Rattle.cut_text.proofs.forest_printing.edges.Given as goal

abbrev pub invariant-loop-edge : goal.invariant-loop-edge
invariant-loop-edge g l =
    Leaves (g.K.Sink.state l.initial.out) (g.K.Sink.state l.out) (edge_lines l.gts (drop l.edge-index l.edges))
    (edge_lines l.gts l.edges)
