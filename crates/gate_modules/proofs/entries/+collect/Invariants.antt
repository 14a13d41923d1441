use Rattle.gate_modules.proofs.entries.+collect.Given as goal

abbrev pub decreases-collect : goal.decreases-collect
decreases-collect l = l.number.n
