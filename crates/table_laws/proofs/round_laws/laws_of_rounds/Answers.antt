use Rattle.table_laws.proofs.Rounds.{known_sound}
use Rattle.table_laws.proofs.Faults.{conflict_faults, no_conflict_flows}
use Rattle.table_laws.proofs.round_laws.laws_of_rounds.Goals as goal

pub returns-clause-known_facts : goal.returns-clause-known_facts
returns-clause-known_facts g c = λ net t blocks known k x v e. known_sound net t blocks known k x v e

pub returns-clause-fault : goal.returns-clause-fault
returns-clause-fault g c = λ net t blocks known o keyed flows k d s. conflict_faults net keyed t blocks known k flows o d s

pub returns-clause-flows : goal.returns-clause-flows
returns-clause-flows g c = λ net t blocks known o keyed flows k d free.
    let r = no_conflict_flows net keyed t blocks known k flows o d free in
    record { values = r.0; flows = r.1; are = r.2 }
