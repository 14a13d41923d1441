use Rattle.replayer.proofs.SettledOnce.{settled_one, not_settled}
use Rattle.replayer.proofs.laws.one_settling.Goals as goal

pub returns-clause-one : goal.returns-clause-one
returns-clause-one g c = λ sys commands. settled_one sys commands

pub returns-clause-no_fault : goal.returns-clause-no_fault
returns-clause-no_fault g c = λ sys commands. not_settled sys commands
