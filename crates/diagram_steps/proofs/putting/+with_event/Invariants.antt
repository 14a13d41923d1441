use Rattle.diagram_steps.proofs.putting.+with_event.Given as goal

abbrev pub decreases-with_event : goal.decreases-with_event
decreases-with_event l = l.sets.n
