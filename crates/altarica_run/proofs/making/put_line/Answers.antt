use Rattle.std.proofs.Common.{decimal}
use Rattle.ar_io.proofs.Writing.{writes_exit, writes_on, writes_front, writes_as}
use Rattle.job_stages.proofs.LineLemmas.{line_two}
use Rattle.altarica_run.proofs.making.put_line.Goals as goal

pub returns-in_err-write_text : goal.returns-in_err-write_text
returns-in_err-write_text g c =
    writes_exit _ _ c.from_residual.ensures.1
    (writes_as _ _ (line_two c.args.named.now (decimal c.args.number)) (writes_front _ _ c.in_err-write_text.ensures))

pub returns-in_err-write_wide : goal.returns-in_err-write_wide
returns-in_err-write_wide g c =
    writes_exit _ _ c.from_residual-in_err-write_wide.ensures.1
    (writes_as _ _ (line_two c.args.named.now (decimal c.args.number))
    (writes_on c.in_ok-write_text.ensures (writes_front _ _ c.in_err-write_wide.ensures)))

pub returns : goal.returns
returns g c =
    writes_as _ _ (line_two c.args.named.now (decimal c.args.number))
    (writes_on c.in_ok-write_text.ensures (writes_on c.in_ok-write_wide.ensures c.write_text-2.ensures))
