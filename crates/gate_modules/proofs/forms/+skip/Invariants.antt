use Rattle.gate_modules.proofs.forms.+skip.Given as goal

abbrev pub decreases-skip : goal.decreases-skip
decreases-skip l = l.number.n
