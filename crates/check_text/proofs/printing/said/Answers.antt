use Rattle.std.proofs.Common.{ap, sym}
use Rattle.ar_io.proofs.Writing.{writes_exit, writes_on, writes_front, writes_as}
use Rattle.check_text.specs.Printed.{verdict_text}
use Rattle.check_text.proofs.printing.said.Goals as goal

pub returns-in_err-write_text-in-Holds : goal.returns-in_err-write_text-in-Holds
returns-in_err-write_text-in-Holds g c =
    writes_exit _ _ c.from_residual.ensures.1
    (writes_as _ _ (ap verdict_text (sym c.in-Holds.is)) (writes_front _ _ c.in_err-write_text-in-Holds.ensures))

pub returns-in_ok-write_text-in-Holds : goal.returns-in_ok-write_text-in-Holds
returns-in_ok-write_text-in-Holds g c =
    writes_as _ _ (ap verdict_text (sym c.in-Holds.is))
    (writes_on c.in_ok-write_text-in-Holds.ensures c.write_number.ensures)
