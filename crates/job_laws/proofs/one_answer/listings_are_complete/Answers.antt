use Rattle.job_laws.proofs.Completing.{listed_whole}
use Rattle.job_laws.proofs.one_answer.listings_are_complete.Goals as goal

pub returns : goal.returns
returns c = λ k s asked w gave quiet known is cuts p free enough.
    let alike = c.one_passing.ensures k.files known asked in
    listed_whole k asked (c.one_job.ensures k.words) is alike cuts w p
    (λ v same. (c.jobs_agree.ensures.conflict_free w v same).0 free)
    (λ v same more. enough ((c.jobs_agree.ensures.nodes_agree w v same asked.job.nodes).1 more))
    (λ g. c.listings_are_whole.ensures k asked g is cuts) quiet s gave
