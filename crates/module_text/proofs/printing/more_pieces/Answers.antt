use Rattle.std.proofs.Common.{List, get_or, map, false, codes}
use Rattle.ar_base.specs.Texts.{separated}
use Rattle.ar_base.proofs.Standing.{one_here, stands_get}
use Rattle.ar_io.proofs.Writing.{writes_exit, writes_on, writes_front, leaves_all, leaves_on, leaves_front, leaves_none, next_read, no_item}
use Rattle.module_text.specs.Arranged.{piece_text}
use Rattle.module_text.specs.declared.arranging.Piece.{Piece}
use Rattle.module_text.specs.declared.arranging.Piece.TheVariants.{Unit as AUnit}
use Rattle.module_text.proofs.printing.more_pieces.Goals as goal

-- what is read past the end
abbrev no_piece : Piece
no_piece = AUnit (record { n = 0; of = record {} })

pub loop-one-init : goal.loop-one-init
loop-one-init g c = leaves_all _ _

pub piece-requires : goal.piece-requires
piece-requires g c = c.requires.each _
    (one_here c.args.pieces.now c.loop-one.one-index _
    (stands_get c.args.pieces.now c.loop-one.one-index _ c.loop-one-test.true))

pub returns-in_err-write_text : goal.returns-in_err-write_text
returns-in_err-write_text g c =
    writes_exit _ _ c.from_residual.ensures.1
    (leaves_front _ _ c.loop-one.invariant (writes_front _
    (piece_text c.args.gts.now (get_or c.args.pieces.now c.loop-one.one-index no_piece)) c.in_err-write_text.ensures)
    (next_read (λ (xs : List Piece). separated false (codes ", ") (map (piece_text c.args.gts.now) xs))
    c.args.pieces.now c.loop-one.one-index no_piece c.loop-one-test.true))

pub returns-in_err-piece : goal.returns-in_err-piece
returns-in_err-piece g c =
    writes_exit _ _ c.from_residual-in_err-piece.ensures.1
    (leaves_front _ _ c.loop-one.invariant (writes_on c.in_ok-write_text.ensures c.in_err-piece.ensures)
    (next_read (λ (xs : List Piece). separated false (codes ", ") (map (piece_text c.args.gts.now) xs))
    c.args.pieces.now c.loop-one.one-index _ c.loop-one-test.true))

pub loop-one-preserved : goal.loop-one-preserved
loop-one-preserved g c =
    leaves_on _ _ c.loop-one.invariant (writes_on c.in_ok-write_text.ensures c.in_ok-piece.ensures)
    (next_read (λ (xs : List Piece). separated false (codes ", ") (map (piece_text c.args.gts.now) xs))
    c.args.pieces.now c.loop-one.one-index _ c.loop-one-test.true)

pub returns : goal.returns
returns g c = leaves_none _ c.loop-one.invariant
    (no_item (λ (xs : List Piece). separated false (codes ", ") (map (piece_text c.args.gts.now) xs)) c.args.pieces.now
    c.loop-one.one-index c.loop-one-test.false)
