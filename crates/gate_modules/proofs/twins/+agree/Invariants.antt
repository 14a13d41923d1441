use Rattle.gate_modules.proofs.twins.+agree.Given as goal

abbrev pub decreases-agree : goal.decreases-agree
decreases-agree l = l.first.n
