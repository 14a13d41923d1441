use Rattle.module_text.proofs.spans.+add_event.Given as goal

abbrev pub decreases-add_event : goal.decreases-add_event
decreases-add_event l = l.unit.n
