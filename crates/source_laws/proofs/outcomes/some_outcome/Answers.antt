use Rattle.source_laws.proofs.Walking.{name_outcome, names_outcome}
use Rattle.source_laws.proofs.Unfolding.{units_listed}
use Rattle.source_laws.proofs.outcomes.some_outcome.Goals as goal

pub returns-clause-name : goal.returns-clause-name
returns-clause-name c = λ m k f u x. name_outcome m k f u x

pub returns-clause-names : goal.returns-clause-names
returns-clause-names c = λ m k f u xs. names_outcome m k f u xs

pub returns-clause-some_list : goal.returns-clause-some_list
returns-clause-some_list c = λ m k. units_listed m k
