use Rattle.job_laws.proofs.Alike.{passes_alike}
use Rattle.job_laws.proofs.one_answer.one_passing.Goals as goal

pub returns : goal.returns
returns c =
    λ files known asked a b h k. passes_alike c.jobs_agree.ensures.readiness_passes c.jobs_agree.ensures.readiness_refused
    c.one_list.ensures c.sources_are_definite.ensures c.one_source_or_refusal.ensures files
    (c.one_loading.ensures files known) c.one_reading.ensures.one_tree asked a b h k
