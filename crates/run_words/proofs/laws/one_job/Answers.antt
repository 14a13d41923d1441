use Rattle.run_words.proofs.OneJob.{one_job_of, one_asked_of, job_asks, asked_gives, not_taken}
use Rattle.std.proofs.Common.{arith}
use Rattle.run_words.proofs.Lengths.{generated_short}
use Rattle.run_words.specs.Commands.{shape_of}
use Rattle.run_words.proofs.laws.one_job.Goals as goal

pub returns-clause-one_job : goal.returns-clause-one_job
returns-clause-one_job c = one_job_of

pub returns-clause-generated_models_are_short : goal.returns-clause-generated_models_are_short
returns-clause-generated_models_are_short c = λ n h. let few = generated_short n h in omega (arith, few)

pub returns-clause-one_asked : goal.returns-clause-one_asked
returns-clause-one_asked c = one_asked_of

pub returns-clause-job_is_asked : goal.returns-clause-job_is_asked
returns-clause-job_is_asked c = job_asks

pub returns-clause-asked_is_job : goal.returns-clause-asked_is_job
returns-clause-asked_is_job c = asked_gives

pub returns-clause-order_is_taken : goal.returns-clause-order_is_taken
returns-clause-order_is_taken c = λ words asked is e. not_taken (shape_of asked.job.command) _ asked.order e is.asked_of.order
