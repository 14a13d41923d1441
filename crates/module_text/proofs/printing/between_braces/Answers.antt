use Rattle.ar_io.proofs.Writing.{writes_exit, writes_on, writes_front, writes_as}
use Rattle.std.proofs.Common.{List, ap, map, true, codes}
use Rattle.ar_base.specs.Texts.{separated}
use Rattle.module_text.specs.Arranged.{piece_text}
use Rattle.module_text.specs.declared.arranging.Piece.{Piece}
use Rattle.module_text.proofs.printing.between_braces.Goals as goal

pub returns-in_err-write_text : goal.returns-in_err-write_text
returns-in_err-write_text g c = writes_exit _ _ c.from_residual.ensures.1 (writes_front _ _ c.in_err-write_text.ensures)

pub returns-in_err-pieces : goal.returns-in_err-pieces
returns-in_err-pieces g c = writes_exit _ _ c.from_residual-in_err-pieces.ensures.1
    (writes_on c.in_ok-write_text.ensures (writes_front _ _
    (writes_as _ _ (ap (λ (z : List Piece). separated true (codes ", ") (map (piece_text c.args.gts.now) z))
    c.deref.ensures.value) c.in_err-pieces.ensures)))

pub returns : goal.returns
returns g c = (writes_on c.in_ok-write_text.ensures
    (writes_on (writes_as _ _ (ap (λ (z : List Piece). separated true (codes ", ") (map (piece_text c.args.gts.now) z))
    c.deref.ensures.value) c.in_ok-pieces.ensures) c.write_text-2.ensures))
