use Rattle.ar_io.proofs.Writing.{writes_exit, writes_on, writes_front, writes_as}
use Rattle.cut_text.proofs.Pieces.{order_pieces}
use Rattle.cut_text.proofs.printing.put_order.Goals as goal

pub returns-in_err-write_text : goal.returns-in_err-write_text
returns-in_err-write_text g c =
    writes_exit _ _ c.from_residual.ensures.1
    (writes_as _ _ (order_pieces c.args.order) (writes_front _ _ c.in_err-write_text.ensures))

pub returns-in_err-write_number : goal.returns-in_err-write_number
returns-in_err-write_number g c =
    writes_exit _ _ c.from_residual-in_err-write_number.ensures.1
    (writes_as _ _ (order_pieces c.args.order)
    (writes_on c.in_ok-write_text.ensures (writes_front _ _ c.in_err-write_number.ensures)))

pub returns : goal.returns
returns g c =
    writes_as _ _ (order_pieces c.args.order)
    (writes_on c.in_ok-write_text.ensures (writes_on c.in_ok-write_number.ensures c.write_text-2.ensures))
