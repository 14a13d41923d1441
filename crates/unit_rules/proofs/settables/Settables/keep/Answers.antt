use Rattle.unit_rules.proofs.Keeping.{adds_one}
use Rattle.unit_rules.proofs.settables.Settables.keep.Goals as goal

pub returns : goal.returns
returns c = let h = c.in_ok-insert.ensures.updates in adds_one c.args.body.n c.args.name.n c.args.settable _ _ h.1 h.2
