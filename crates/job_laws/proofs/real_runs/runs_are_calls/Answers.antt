use Rattle.job_laws.proofs.RunsAsCalls.{nothing_loaded, run_over, run_apart}
use Rattle.job_laws.proofs.real_runs.runs_are_calls.Goals as goal

pub returns-clause-nothing_is_loaded : goal.returns-clause-nothing_is_loaded
returns-clause-nothing_is_loaded c = nothing_loaded

pub returns-clause-over_what_was_loaded : goal.returns-clause-over_what_was_loaded
returns-clause-over_what_was_loaded c = run_over

pub returns-clause-runs_are_calls : goal.returns-clause-runs_are_calls
returns-clause-runs_are_calls c = run_apart
