use Rattle.zdd_ops.proofs.halving.+having_in.Given as goal

abbrev pub decreases-having_in : goal.decreases-having_in
decreases-having_in l = l.f.n
