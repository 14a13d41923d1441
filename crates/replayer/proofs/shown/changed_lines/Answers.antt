use Rattle.ar_io.proofs.Writing.{writes_exit, writes_on, writes_front, writes_as}
use Rattle.replayer.proofs.ObservingLemmas.{changes_looked}
use Rattle.replayer.proofs.shown.changed_lines.Goals as goal

pub returns-in_err-variable_changes : goal.returns-in_err-variable_changes
returns-in_err-variable_changes g c =
    writes_exit _ _ c.from_residual.ensures.1
    (writes_as _ _ (changes_looked c.args.parts.now c.requires.sound c.args.old.now c.args.new.now c.requires.old
    c.requires.new c.args.changed.now c.requires.changed c.args.touched.now c.requires.touched)
    (writes_front _ _ c.in_err-variable_changes.ensures))

pub returns : goal.returns
returns g c =
    writes_as _ _ (changes_looked c.args.parts.now c.requires.sound c.args.old.now c.args.new.now c.requires.old
    c.requires.new c.args.changed.now c.requires.changed c.args.touched.now c.requires.touched)
    (writes_on c.in_ok-variable_changes.ensures c.observer_changes.ensures)
