use Rattle.ar_io.proofs.Writing.{writes_exit, writes_on, writes_front, writes_as}
use Rattle.gts_core.specs.declared.system.GtsParts.{GtsParts}
use Rattle.std.proofs.Common.{ap, sym, subst}
use Rattle.gts_core.specs.Readings.{IsTotal}
use Rattle.replayer.specs.Observing.{AreTouched}
use Rattle.replayer.specs.Printing.{changes_text}
use Rattle.replayer.proofs.trace.gone_back.Goals as goal

pub changed_lines-requires-clause-old : goal.changed_lines-requires-clause-old
changed_lines-requires-clause-old g c =
    subst (λ (q : GtsParts). IsTotal q c.args.old.now) (sym c.parts.ensures.parts) c.requires.old

pub changed_lines-requires-clause-new : goal.changed_lines-requires-clause-new
changed_lines-requires-clause-new g c =
    subst (λ (q : GtsParts). IsTotal q c.args.new.now) (sym c.parts.ensures.parts) c.requires.new

pub changed_lines-requires-clause-touched : goal.changed_lines-requires-clause-touched
changed_lines-requires-clause-touched g c =
    subst (λ (q : GtsParts). AreTouched q c.args.changed.now c.args.touched.now) (sym c.parts.ensures.parts)
    c.requires.touched

pub returns-in_err-write_text : goal.returns-in_err-write_text
returns-in_err-write_text g c =
    writes_exit _ _ c.from_residual.ensures.1
    (writes_front _ _ c.in_err-write_text.ensures)

pub returns : goal.returns
returns g c =
    writes_on c.in_ok-write_text.ensures (writes_as _ _
    (ap (λ (q : GtsParts). changes_text q c.args.old.now c.args.new.now) c.parts.ensures.parts)
    c.changed_lines.ensures)
