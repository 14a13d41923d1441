use Rattle.typed_expr.proofs.Kinded.{compares-equal, compares-differs, compares-less, compares-at_most, compares-more, compares-at_least}
use Rattle.typed_expr.proofs.kinds.compares.Goals as goal

pub returns-in-Equal : goal.returns-in-Equal
returns-in-Equal c = rw c.in-Equal.is (compares-equal c.args.kind)

pub returns-in-Differs : goal.returns-in-Differs
returns-in-Differs c = rw c.in-Differs.is (compares-differs c.args.kind)

pub returns-in-Less : goal.returns-in-Less
returns-in-Less c = rw c.in-Less.is (compares-less c.args.kind c.is_whole.result c.is_whole.ensures)

pub returns-in-AtMost : goal.returns-in-AtMost
returns-in-AtMost c =
    rw c.in-AtMost.is (compares-at_most c.args.kind c.is_whole-in-AtMost.result c.is_whole-in-AtMost.ensures)

pub returns-in-More : goal.returns-in-More
returns-in-More c = rw c.in-More.is (compares-more c.args.kind c.is_whole-in-More.result c.is_whole-in-More.ensures)

pub returns-in-AtLeast : goal.returns-in-AtLeast
returns-in-AtLeast c =
    rw c.in-AtLeast.is (compares-at_least c.args.kind c.is_whole-in-AtLeast.result c.is_whole-in-AtLeast.ensures)
