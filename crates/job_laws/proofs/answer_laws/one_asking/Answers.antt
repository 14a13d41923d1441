use Rattle.job_laws.proofs.Asking.{asks_one}
use Rattle.job_laws.proofs.Demanding.{readies_one, readies_on}
use Rattle.job_laws.proofs.Telling.{saying_one, tells_one}
use Rattle.job_laws.proofs.Readings.{fitting_viable}
use Rattle.job_laws.proofs.answer_laws.one_asking.Goals as goal

pub returns-clause-one_request : goal.returns-clause-one_request
returns-clause-one_request c = λ x is asked texts a b h k. asks_one asked texts c.one_list.ensures x is a b h k

pub returns-clause-one_readiness : goal.returns-clause-one_readiness
returns-clause-one_readiness c = λ x is asked texts a b h k. readies_one asked texts c.one_list.ensures x is a b h k

pub returns-clause-one_saying : goal.returns-clause-one_saying
returns-clause-one_saying c = λ x is asked texts s t a b p q. saying_one c.one_list.ensures x is asked texts s t a b p q

pub returns-clause-one_text : goal.returns-clause-one_text
returns-clause-one_text c = λ x is asked texts w ready s t a b p q. tells_one asked w (readies_on asked texts x w is ready) s t a b p q

pub returns-clause-fitting_fronts_are_viable : goal.returns-clause-fitting_fronts_are_viable
returns-clause-fitting_fronts_are_viable c = fitting_viable
