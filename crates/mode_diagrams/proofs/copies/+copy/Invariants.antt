use Rattle.mode_diagrams.proofs.copies.+copy.Given as goal

abbrev pub decreases-copy : goal.decreases-copy
decreases-copy l = l.number.n
