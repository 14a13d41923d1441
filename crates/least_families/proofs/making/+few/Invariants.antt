use Rattle.least_families.proofs.making.+few.Given as goal

abbrev pub decreases-few : goal.decreases-few
decreases-few l = l.f.n
