use Rattle.std.proofs.Common.{◌≡◌}
use Rattle.ar_meaning.proofs.ImageBoth.{same_runs}
use Rattle.hierarchy.specs.Units.{Thing}
use Rattle.source_meaning.proofs.OneSystem.{system_same}
use Rattle.source_meaning.proofs.laws.one_system.Goals as goal

pub returns-clause-system : goal.returns-clause-system
returns-clause-system c = λ m units different du de x y p q. system_same m different du de p q

pub returns-clause-runs : goal.returns-clause-runs
returns-clause-runs c = λ m units different du de x y p q. same_runs (λ (t u : Thing). t ≡ u) x y
    (system_same m different du de p q)
