use Rattle.std.proofs.Common.{List, ap, sym, map, true, codes, subst}
use Rattle.ar_base.specs.Lists.{IsOneOf}
use Rattle.ar_base.specs.Texts.{separated}
use Rattle.ar_base.proofs.Standing.{one_rest}
use Rattle.ar_io.proofs.Writing.{writes_on, writes_as}
use Rattle.module_text.specs.Arranged.{piece_text}
use Rattle.module_text.specs.declared.arranging.Piece.{Piece}
use Rattle.module_text.proofs.printing.pieces.Goals as goal

pub more_pieces-requires : goal.more_pieces-requires
more_pieces-requires g c = record {
  each = λ x i. c.requires.each x
      (subst (λ (z : List Piece). IsOneOf z x) (sym c.in-Some.ensures.cases.0)
      (one_rest c.in-Some.first.now c.in-Some.others.now x i));
}

pub returns : goal.returns
returns g c =
    writes_as _ _ (ap (λ (z : List Piece). separated true (codes ", ") (map (piece_text c.args.gts.now) z))
    (sym c.in-Some.ensures.cases.0))
    (writes_on c.in_ok-piece.ensures c.more_pieces.ensures)
