use Rattle.job_laws.proofs.Alike.{stages_alike}
use Rattle.job_laws.proofs.one_answer.texts_that_were_read_have_one_answer.Goals as goal

pub returns : goal.returns
returns c =
    λ asked texts text a b h k. stages_alike c.jobs_agree.ensures.readiness_passes c.jobs_agree.ensures.readiness_refused
    c.one_list.ensures c.sources_are_definite.ensures c.one_source_or_refusal.ensures asked texts text a b h k
