use Rattle.job_laws.proofs.Alike.{says_alike}
use Rattle.job_laws.proofs.one_answer.texts_have_one_answer.Goals as goal

pub returns : goal.returns
returns c =
    λ files known words s t a b h k. says_alike c.jobs_agree.ensures.readiness_passes
    c.jobs_agree.ensures.readiness_refused c.one_list.ensures c.sources_are_definite.ensures
    c.one_source_or_refusal.ensures files (c.one_loading.ensures files known) c.one_reading.ensures.one_tree
    (λ w v same asked text ends. (c.jobs_agree.ensures.texts_agree w v same asked text ends).0) words (c.one_job.ensures words) s t a
    b h k
