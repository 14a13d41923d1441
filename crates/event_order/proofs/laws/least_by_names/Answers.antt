use Rattle.event_order.proofs.ByNames.{least_by_names}
use Rattle.event_order.proofs.laws.least_by_names.Goals as goal

pub returns : goal.returns
returns c = least_by_names
