use Rattle.ar_io.proofs.Writing.{writes_exit, writes_on, writes_front}
use Rattle.cut_text.proofs.printing.write_set.Goals as goal

pub returns-in_err-write_text : goal.returns-in_err-write_text
returns-in_err-write_text g c = writes_exit _ _ c.from_residual.ensures.1 (writes_front _ _ c.in_err-write_text.ensures)

pub returns-in_err-labels : goal.returns-in_err-labels
returns-in_err-labels g c =
    writes_exit _ _ c.from_residual-in_err-labels.ensures.1
    (writes_on c.in_ok-write_text.ensures (writes_front _ _ c.in_err-labels.ensures))

pub returns : goal.returns
returns g c = writes_on c.in_ok-write_text.ensures (writes_on c.in_ok-labels.ensures c.write_text-2.ensures)
