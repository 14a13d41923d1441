use Rattle.gate_modules.proofs.parts.+add_some_parts.Given as goal

abbrev pub decreases-add_some_parts : goal.decreases-add_some_parts
decreases-add_some_parts l = l.number.n
