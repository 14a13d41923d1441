use Rattle.gate_modules.proofs.entries.+exit.Given as goal

abbrev pub decreases-exit : goal.decreases-exit
decreases-exit l = l.number.n
