use Rattle.ar_io.proofs.Writing.{writes_exit, writes_on, writes_front, writes_as}
use Rattle.module_text.proofs.Pieces.{last_pieces}
use Rattle.module_text.proofs.printing.last.Goals as goal

pub returns-in_err-write_text : goal.returns-in_err-write_text
returns-in_err-write_text g c = writes_exit _ _ c.from_residual.ensures.1
    (writes_as _ _ (last_pieces _) (writes_front _ _ c.in_err-write_text.ensures))

pub returns-in_err-write_count : goal.returns-in_err-write_count
returns-in_err-write_count g c = writes_exit _ _ c.from_residual-in_err-write_count.ensures.1
    (writes_as _ _ (last_pieces _) (writes_on c.in_ok-write_text.ensures (writes_front _ _ c.in_err-write_count.ensures)))

pub returns : goal.returns
returns g c = (writes_as _ _ (last_pieces _)
    (writes_on c.in_ok-write_text.ensures (writes_on c.in_ok-write_count.ensures c.write_text-2.ensures)))
