use Rattle.typed_expr.proofs.Gathering.{truths-none, truths-false, truths-true, truths-both}
use Rattle.typed_expr.proofs.sets.truth_set.Goals as goal

pub returns-in-true-true : goal.returns-in-true-true
returns-in-true-true c =
    rw (c.in-true-true.is-0, c.in-true-true.is-1) (truths-both c.args.most c.set_of.result c.set_of.ensures)

pub returns-in-true-false : goal.returns-in-true-false
returns-in-true-false c =
    rw (c.in-true-false.is-0, c.in-true-false.is-1)
    (truths-false c.args.most c.set_of-in-true-false.result c.set_of-in-true-false.ensures)

pub returns-in-false-true : goal.returns-in-false-true
returns-in-false-true c =
    rw (c.in-false-true.is-0, c.in-false-true.is-1)
    (truths-true c.args.most c.set_of-in-false-true.result c.set_of-in-false-true.ensures)

pub returns-in-false-false : goal.returns-in-false-false
returns-in-false-false c =
    rw (c.in-false-false.is-0, c.in-false-false.is-1)
    (truths-none c.args.most c.set_of-in-false-false.result c.set_of-in-false-false.ensures)
