use Rattle.std.proofs.Common.{arith}
use Rattle.ar_io.proofs.Writing.{writes_exit, writes_on, writes_front, writes_as}
use Rattle.cut_text.proofs.Pieces.{count_pieces}
use Rattle.cut_text.proofs.printing.print_count.Goals as goal

pub returns-in_err-write_text : goal.returns-in_err-write_text
returns-in_err-write_text g c =
    writes_exit _ _ c.from_residual.ensures.1
    (writes_as _ _ (count_pieces c.args.order c.args.count (omega (arith, c.ranges.count.fits)))
    (writes_front _ _ c.in_err-write_text.ensures))

pub returns-in_err-write_wide : goal.returns-in_err-write_wide
returns-in_err-write_wide g c =
    writes_exit _ _ c.from_residual-in_err-write_wide.ensures.1
    (writes_as _ _ (count_pieces c.args.order c.args.count (omega (arith, c.ranges.count.fits)))
    (writes_on c.in_ok-write_text.ensures (writes_front _ _ c.in_err-write_wide.ensures)))

pub returns : goal.returns
returns g c =
    writes_as _ _ (count_pieces c.args.order c.args.count (omega (arith, c.ranges.count.fits)))
    (writes_on c.in_ok-write_text.ensures (writes_on c.in_ok-write_wide.ensures c.write_order_end.ensures))
