use Rattle.altarica_run.proofs.LawLemmas.{only_of}
use Rattle.job_laws.proofs.Completing.{refused_alone}
use Rattle.job_laws.proofs.one_answer.causes_are_told.Goals as goal

pub returns : goal.returns
returns c = λ k s asked r gave quiet known is p.
    let alike = c.one_passing.ensures k.files known asked in
    only_of k asked (c.one_job.ensures k.words) is r
    (λ x h. refused_alone k asked (c.one_job.ensures k.words) is alike r p x h) quiet s gave
