use Rattle.altarica_run.proofs.laws.one_job.Goals as goal

pub returns : goal.returns
returns c = λ words a b x y. c.one_job.ensures.one_asked words a b x y
