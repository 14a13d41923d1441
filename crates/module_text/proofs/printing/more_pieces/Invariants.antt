use Rattle.std.proofs.Common.{map, drop, false, codes}
use Rattle.ar_base.specs.Texts.{separated}
use Rattle.ar_io.specs.WritingInside.{Leaves}
use Rattle.module_text.specs.Arranged.{piece_text}
use Rattle.module_text.proofs.printing.more_pieces.Given as goal

abbrev pub invariant-loop-one : goal.invariant-loop-one
invariant-loop-one g l = Leaves (g.K.Sink.state l.initial.out) (g.K.Sink.state l.out)
    (separated false (codes ", ") (map (piece_text l.gts) (drop l.one-index l.pieces)))
    (separated false (codes ", ") (map (piece_text l.gts) l.pieces))
