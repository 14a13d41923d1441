use Rattle.std.proofs.Common.{IsTrue}
use Rattle.ar_meaning.specs.Facts.{given, Allows, HasStateValue, FactOf}
use Rattle.ar_meaning.proofs.Least.{least, closed}
use Rattle.ar_meaning.proofs.ByNumber.{keyed, value_at, value_from, given_at, given_from, allowed_at, allowed_from}
use Rattle.ar_meaning.proofs.StatesAlone.{same_flows, states_same}
use Rattle.ar_meaning.proofs.facts.fact_laws.Goals as goal

pub returns-clause-facts_given : goal.returns-clause-facts_given
returns-clause-facts_given g c = λ net t x v h. given h

pub returns-clause-facts_closed : goal.returns-clause-facts_closed
returns-clause-facts_closed g c = λ net t a v o p y l. closed net.assertions (Allows net) (HasStateValue net t) a v o p y l

pub returns-clause-facts_are_least : goal.returns-clause-facts_are_least
returns-clause-facts_are_least g c =
    λ net t holds h k. least net.assertions (Allows net) (HasStateValue net t) (λ x v. IsTrue (holds x v)) h k

pub returns-clause-more_facts : goal.returns-clause-more_facts
returns-clause-more_facts g c =
    λ net t u h. least net.assertions (Allows net) (HasStateValue net t) (FactOf net u) (λ x v i. given (h x v i))
    (λ a v o p y l. closed net.assertions (Allows net) (HasStateValue net u) a v o p y l)

pub returns-clause-keyed_by_number : goal.returns-clause-keyed_by_number
returns-clause-keyed_by_number g c = keyed

pub returns-clause-values_by_number : goal.returns-clause-values_by_number
returns-clause-values_by_number g c =
    λ net numbered t n x v s. (λ h. value_at net numbered t n v h, λ h. value_from net numbered t n x v s h)

pub returns-clause-given_by_number : goal.returns-clause-given_by_number
returns-clause-given_by_number g c =
    λ net numbered t n x v s. (λ h. given_at net numbered t n x v s h, λ h. given_from net numbered t n x v s h.0 h.1)

pub returns-clause-allowed_by_number : goal.returns-clause-allowed_by_number
returns-clause-allowed_by_number g c =
    λ net numbered n x v s. (λ h. allowed_at net numbered n x v s h, λ h. allowed_from net numbered n x v s h)

pub returns-clause-flows_read_states : goal.returns-clause-flows_read_states
returns-clause-flows_read_states g c = λ net t u a b h o f. same_flows net (states_same net.variables t u a b h) f
