use Rattle.gate_modules.proofs.twins.+agree_some.Given as goal

abbrev pub decreases-agree_some : goal.decreases-agree_some
decreases-agree_some l = l.first.n
