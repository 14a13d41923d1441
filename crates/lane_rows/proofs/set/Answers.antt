-- One bit of one word is set.
use Rattle.lane_rows.proofs.Single.{set_sets}
use Rattle.lane_rows.proofs.set.Goals as goal

pub returns : goal.returns
returns c = set_sets c.args.row.now c.args.number c.requires
