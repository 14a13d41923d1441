use Rattle.gts_core.proofs.Lawfulness.{system_lawful, observer_kind}
use Rattle.gts_core.proofs.laws.lawful_systems.Goals as goal

pub returns-clause-net : goal.returns-clause-net
returns-clause-net c = λ p sound. system_lawful p sound

pub returns-clause-observers : goal.returns-clause-observers
returns-clause-observers c = λ p o sound h. observer_kind p sound o h
