use Rattle.gate_modules.proofs.forms.+add_forms.Given as goal

abbrev pub decreases-add_forms : goal.decreases-add_forms
decreases-add_forms l = l.number.n
