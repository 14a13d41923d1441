use Rattle.job_laws.proofs.Enough.{nodes_of}
use Rattle.job_laws.proofs.told.nodes_are_told.Goals as goal

pub returns : goal.returns
returns c = λ files known words asked w text is p said.
    nodes_of files words (c.one_job.ensures words) asked is (c.one_passing.ensures files known asked) w p
    (λ w v same asked text ends. (c.jobs_agree.ensures.texts_agree w v same asked text ends).1) text said
