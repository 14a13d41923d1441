use Rattle.job_laws.proofs.Answering.{told_or_stopped, exact_or_stopped}
use Rattle.job_laws.proofs.told.jobs_are_told.Goals as goal

pub returns-clause-told : goal.returns-clause-told
returns-clause-told c = λ k s asked w gave known is p.
    told_or_stopped k asked (c.one_job.ensures k.words) is (c.one_passing.ensures k.files known asked) w p
    (λ w v same asked text ends. (c.jobs_agree.ensures.texts_agree w v same asked text ends).1) s gave

pub returns-clause-exact : goal.returns-clause-exact
returns-clause-exact c = λ k s asked w text ends gave known is others p t.
    exact_or_stopped k asked (c.one_job.ensures k.words) is (c.one_passing.ensures k.files known asked) w p
    (λ w v same asked text ends. (c.jobs_agree.ensures.texts_agree w v same asked text ends).1) others
    (c.texts_have_one_answer.ensures k.files known k.words) text ends t s gave
