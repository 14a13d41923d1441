use Rattle.gts_core.proofs.Systems as systems
use Rattle.gts_core.proofs.laws.one_system.Goals as goal

pub returns-clause-some : goal.returns-clause-some
returns-clause-some c = λ p sound. systems.some_system p sound

pub returns-clause-one : goal.returns-clause-one
returns-clause-one c = λ p a b f g. systems.one_system p a b f g
