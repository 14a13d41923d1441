use Rattle.written_forms.proofs.Pairs.{set_one}
use Rattle.written_forms.proofs.two_way_assignments.set_to.Goals as goal

pub returns : goal.returns
returns c = set_one c.args.target c.args.at c.args.value
