use Rattle.ar_io.proofs.Writing.{writes_exit, writes_on, writes_front, writes_as}
use Rattle.std.proofs.Common.{List, ap, ◌∙◌}
use Rattle.gts_core.specs.declared.system.Observer.{Observer}
use Rattle.replayer.specs.Printing.{observer_lines}
use Rattle.replayer.proofs.ValueLemmas.{observers_alike}
use Rattle.replayer.proofs.shown.all_lines.Goals as goal

pub returns-in_err-variable_lines : goal.returns-in_err-variable_lines
returns-in_err-variable_lines g c =
    writes_exit _ _ c.from_residual.ensures.1
    (writes_front _ _ c.in_err-variable_lines.ensures)

pub returns : goal.returns
returns g c =
    writes_on c.in_ok-variable_lines.ensures
    (writes_as _ _ (ap (λ (os : List Observer). observer_lines c.args.parts.now c.args.values.now 0 os)
    c.deref.ensures.value ∙ observers_alike c.args.parts.now c.args.values.now 0 c.args.parts.now.observers.items)
    c.observer_lines.ensures)
