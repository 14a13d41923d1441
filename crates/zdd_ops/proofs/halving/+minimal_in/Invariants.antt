use Rattle.zdd_ops.proofs.halving.+minimal_in.Given as goal

abbrev pub decreases-minimal_in : goal.decreases-minimal_in
decreases-minimal_in l = l.f.n
