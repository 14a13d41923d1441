use Rattle.std.proofs.Common.{drop}
use Rattle.ar_io.specs.WritingInside.{Leaves}
use Rattle.cut_text.specs.ForestPrinted.{trees_text}
use Rattle.cut_text.proofs.forest_printing.trees.Given as goal

abbrev pub invariant-loop-one : goal.invariant-loop-one
invariant-loop-one g l =
    Leaves (g.K.Sink.state l.initial.out) (g.K.Sink.state l.out) (trees_text l.gts (drop l.one-index l.trees))
    (trees_text l.gts l.trees)
