use Rattle.ar_io.proofs.Writing.{writes_exit, writes_on, writes_front}
use Rattle.job_stages.proofs.refusals.put_syntax.Goals as goal

pub returns-in_err-write_text : goal.returns-in_err-write_text
returns-in_err-write_text g c =
    writes_exit _ _ c.from_residual.ensures.1
    (writes_front _ _ c.in_err-write_text.ensures)

pub returns : goal.returns
returns g c =
    writes_on c.in_ok-write_text.ensures c.put_place.ensures
