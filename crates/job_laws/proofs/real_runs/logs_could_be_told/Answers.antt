use Rattle.job_laws.proofs.LogsApart.{could_be_told}
use Rattle.job_laws.proofs.real_runs.logs_could_be_told.Goals as goal

pub returns : goal.returns
returns c = could_be_told
