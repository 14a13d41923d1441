use Rattle.job_laws.proofs.Alike.{readies_alike, saying_alike}
use Rattle.job_laws.proofs.alike_laws.one_answer_of_alike_sources.Goals as goal

pub returns-clause-one_readiness_of_alike_sources : goal.returns-clause-one_readiness_of_alike_sources
returns-clause-one_readiness_of_alike_sources c =
    λ x y same is asked texts a b h k. readies_alike c.jobs_agree.ensures.readiness_passes c.jobs_agree.ensures.readiness_refused
    c.one_list.ensures x y same is asked texts a b h k

pub returns-clause-one_answer_of_alike_sources : goal.returns-clause-one_answer_of_alike_sources
returns-clause-one_answer_of_alike_sources c =
    λ x y same is asked texts s t a b h k. saying_alike c.jobs_agree.ensures.readiness_passes
    c.jobs_agree.ensures.readiness_refused c.one_list.ensures x y same is asked texts
    (λ w v alike asked text ends. (c.jobs_agree.ensures.texts_agree w v alike asked text ends).0) s t a b h k
