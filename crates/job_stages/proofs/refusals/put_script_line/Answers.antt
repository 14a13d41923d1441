use Rattle.std.proofs.Common.{codes, decimal}
use Rattle.ar_io.proofs.Writing.{writes_exit, writes_on, writes_front, writes_as}
use Rattle.job_stages.proofs.LineLemmas.{line_three}
use Rattle.job_stages.proofs.refusals.put_script_line.Goals as goal

pub returns-in_err-write_text : goal.returns-in_err-write_text
returns-in_err-write_text g c =
    writes_exit _ _ c.from_residual.ensures.1
    (writes_as _ _ (line_three (codes "script: line ") (decimal c.args.number) c.args.wrong.now)
    (writes_front _ _ c.in_err-write_text.ensures))

pub returns-in_err-write_number : goal.returns-in_err-write_number
returns-in_err-write_number g c =
    writes_exit _ _ c.from_residual-in_err-write_number.ensures.1
    (writes_as _ _ (line_three (codes "script: line ") (decimal c.args.number) c.args.wrong.now)
    (writes_on c.in_ok-write_text.ensures (writes_front _ _ c.in_err-write_number.ensures)))

pub returns-in_err-write_text-2 : goal.returns-in_err-write_text-2
returns-in_err-write_text-2 g c =
    writes_exit _ _ c.from_residual-in_err-write_text-2.ensures.1
    (writes_as _ _ (line_three (codes "script: line ") (decimal c.args.number) c.args.wrong.now)
    (writes_on c.in_ok-write_text.ensures (writes_on c.in_ok-write_number.ensures (writes_front _ _ c.in_err-write_text-2.ensures))))

pub returns : goal.returns
returns g c =
    writes_as _ _ (line_three (codes "script: line ") (decimal c.args.number) c.args.wrong.now)
    (writes_on c.in_ok-write_text.ensures (writes_on c.in_ok-write_number.ensures
    (writes_on c.in_ok-write_text-2.ensures c.write_text-3.ensures)))
