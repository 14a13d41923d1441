use Rattle.std.proofs.lemmas.Bool.{cases_eq}
use Rattle.ar_meaning.proofs.Outcomes.{has_outcome}
use Rattle.ar_meaning.proofs.Answering.{has_answer}
use Rattle.ar_meaning.proofs.Moments.{has_moments}
use Rattle.ar_meaning.proofs.answers.at_least_one.Goals as goal

pub returns-clause-some_outcome : goal.returns-clause-some_outcome
returns-clause-some_outcome g c = λ told net t long. has_outcome told net t long

pub returns-clause-some_outcome_by_number : goal.returns-clause-some_outcome_by_number
returns-clause-some_outcome_by_number g c = λ net t long. has_outcome cases_eq net t long

pub returns-clause-some_answer : goal.returns-clause-some_answer
returns-clause-some_answer g c = λ told net t w long. has_answer told net t w long

pub returns-clause-some_run : goal.returns-clause-some_run
returns-clause-some_run g c = λ told sys cs h. has_moments told sys cs h

pub returns-clause-some_answer_by_number : goal.returns-clause-some_answer_by_number
returns-clause-some_answer_by_number g c = λ net t w long. has_answer cases_eq net t w long

pub returns-clause-some_run_by_number : goal.returns-clause-some_run_by_number
returns-clause-some_run_by_number g c = λ sys cs h. has_moments cases_eq sys cs h
