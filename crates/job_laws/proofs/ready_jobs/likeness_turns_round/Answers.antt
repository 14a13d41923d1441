use Rattle.job_laws.proofs.Turned.{declarations_back, source_back, ready_back}
use Rattle.job_laws.proofs.ready_jobs.likeness_turns_round.Goals as goal

pub returns-clause-declarations : goal.returns-clause-declarations
returns-clause-declarations c = declarations_back

pub returns-clause-sources : goal.returns-clause-sources
returns-clause-sources c = source_back

pub returns-clause-jobs : goal.returns-clause-jobs
returns-clause-jobs c = ready_back
