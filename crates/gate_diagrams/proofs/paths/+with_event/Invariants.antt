use Rattle.gate_diagrams.proofs.paths.+with_event.Given as goal

abbrev pub decreases-with_event : goal.decreases-with_event
decreases-with_event l = l.set.n
