use Rattle.std.proofs.Common.{◌≡◌, Result, None, Err, sym, ◌∙◌, ap}
use Rattle.std.proofs.lemmas.Result.{err_from_is_err_and}
use Rattle.run_words.specs.declared.jobs.Job.{Job}
use Rattle.run_words.specs.declared.jobs.JobFault.{JobFault}
use Rattle.run_words.proofs.OneJob.{job_asks}
use Rattle.run_words.proofs.reading.read_job.Goals as goal

same_fault : {a b : JobFault} → ◌≡◌ {A = Result Job JobFault} (Err a) (Err b) → a ≡ b
same_fault e = cc

pub returns-in_err-asked-clause-usage : goal.returns-in_err-asked-clause-usage
returns-in_err-asked-clause-usage c = λ e job is.
    let x = err_from_is_err_and c.from_residual.result c.from_residual.ensures.1 in
    c.in_err-asked.ensures.usage (ap Err (same_fault (sym (x.1 ∙ ap Err x.2) ∙ e))) (record { job = job; order = None })
    (job_asks _ job is)
