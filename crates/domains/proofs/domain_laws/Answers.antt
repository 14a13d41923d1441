use Rattle.domains.proofs.Domains.{one_value, in_order, listed, held}
use Rattle.domains.proofs.domain_laws.Goals as goal

pub returns-clause-one_value : goal.returns-clause-one_value
returns-clause-one_value c = one_value

pub returns-clause-in_order : goal.returns-clause-in_order
returns-clause-in_order c = in_order

pub returns-clause-listed : goal.returns-clause-listed
returns-clause-listed c = λ d v i. (listed d v, held d v i)
