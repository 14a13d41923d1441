use Rattle.std.proofs.Common.{[], length}
use Rattle.eq_core.proofs.Ordering.{joined_ordered, none_earlier}
use Rattle.eq_core.proofs.joints.joined_in_order.Goals as goal

pub returns : goal.returns
returns c = λ both gates os a l.
    let m = joined_ordered both gates [] os a (none_earlier (length gates)) l in (m.gates, m.below)
