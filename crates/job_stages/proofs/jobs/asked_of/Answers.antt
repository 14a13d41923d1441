use Rattle.std.proofs.lemmas.Result.{err_from_is_err_and}
use Rattle.job_stages.proofs.JobLemmas.{job_stops}
use Rattle.job_stages.proofs.jobs.asked_of.Goals as goal

pub returns-in_err-asked : goal.returns-in_err-asked
returns-in_err-asked c =
    let r = err_from_is_err_and c.from_residual.result c.from_residual.ensures.1 in
    job_stops _ _ _ _ r.1 r.2 c.in_err-asked.ensures.usage

pub returns : goal.returns
returns c = c.in_ok-asked.ensures.found
