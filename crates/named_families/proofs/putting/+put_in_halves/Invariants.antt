use Rattle.named_families.proofs.putting.+put_in_halves.Given as goal

abbrev pub decreases-put_in_halves : goal.decreases-put_in_halves
decreases-put_in_halves l = l.sets.n
