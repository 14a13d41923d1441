use Rattle.ar_io.proofs.Writing.{writes_on, writes_front, writes_exit, writes_as}
use Rattle.gts_core.proofs.print.label.Goals as goal

pub returns-in_err-write_text : goal.returns-in_err-write_text
returns-in_err-write_text g c =
    writes_exit _ _ c.from_residual.ensures.1
    (writes_front _ _ (writes_front _ _ (writes_as _ _ c.event_path.ensures c.in_err-write_text.ensures)))

pub returns-in_err-write_text-2 : goal.returns-in_err-write_text-2
returns-in_err-write_text-2 g c =
    writes_exit _ _ c.from_residual-in_err-write_text-2.ensures.1
    (writes_front _ _ (writes_on (writes_as _ _ c.event_path.ensures c.in_ok-write_text.ensures) c.in_err-write_text-2.ensures))

pub returns : goal.returns
returns g c =
    writes_on (writes_on (writes_as _ _ c.event_path.ensures c.in_ok-write_text.ensures) c.in_ok-write_text-2.ensures) c.write_number.ensures
