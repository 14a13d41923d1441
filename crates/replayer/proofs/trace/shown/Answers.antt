use Rattle.ar_io.proofs.Writing.{writes_exit, writes_on, writes_front, writes_as}
use Rattle.gts_core.specs.declared.system.GtsParts.{GtsParts}
use Rattle.std.proofs.Common.{ap}
use Rattle.replayer.specs.Printing.{values_text}
use Rattle.replayer.proofs.trace.shown.Goals as goal

pub returns-in_err-write_text : goal.returns-in_err-write_text
returns-in_err-write_text g c =
    writes_exit _ _ c.from_residual.ensures.1
    (writes_front _ _ c.in_err-write_text.ensures)

pub returns : goal.returns
returns g c =
    writes_on c.in_ok-write_text.ensures (writes_as _ _
    (ap (λ (q : GtsParts). values_text q c.args.values.now) c.parts.ensures.parts) c.all_lines.ensures)
