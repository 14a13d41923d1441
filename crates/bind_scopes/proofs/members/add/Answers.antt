use Rattle.bind_scopes.proofs.NameSets.{adds_one}
use Rattle.bind_scopes.proofs.members.add.Goals as goal

pub returns : goal.returns
returns c = λ g e. adds_one c.args.body.n g c.args.name.n e _ _ c.in_ok-insert.ensures.updates.0
