use Rattle.job_laws.proofs.LogsTold.{came_told, passes_over}
use Rattle.job_laws.proofs.real_runs.logs_are_told.Goals as goal

pub returns-clause-files : goal.returns-clause-files
returns-clause-files c = came_told

pub returns-clause-stages : goal.returns-clause-stages
returns-clause-stages c = passes_over
