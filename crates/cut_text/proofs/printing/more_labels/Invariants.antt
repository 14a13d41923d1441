use Rattle.std.proofs.Common.{drop, false, codes}
use Rattle.ar_base.specs.Texts.{separated}
use Rattle.ar_io.specs.WritingInside.{Leaves}
use Rattle.min_cuts.specs.Kept.{numbers_of_set}
use Rattle.cut_text.specs.Tables.{texts_at}
use Rattle.cut_text.proofs.printing.more_labels.Given as goal

abbrev pub invariant-loop-event : goal.invariant-loop-event
invariant-loop-event g l =
    Leaves (g.K.Sink.state l.initial.out) (g.K.Sink.state l.out)
    (separated false (codes ", ") (texts_at l.gts l.ways (numbers_of_set (drop l.event-index l.events))))
    (separated false (codes ", ") (texts_at l.gts l.ways (numbers_of_set l.events)))
