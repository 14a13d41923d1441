use Rattle.std.proofs.Common.{arith}
use Rattle.ar_base.proofs.Counting.{numbers_next, own_ascend, own_below, own_all}
use Rattle.ar_base.proofs.numbers.numbers_below.Goals as goal

pub loop-number-preserved : goal.loop-number-preserved
loop-number-preserved c = numbers_next c.loop-number.number c.loop-number.numbers.items c.push.new.self.items
    c.in_ok-push.ensures.items c.loop-number.invariant

pub returns-clause-all : goal.returns-clause-all
returns-clause-all c = λ n l. own_all c.loop-number.numbers.items c.loop-number.invariant.1 n (omega (arith, c.loop-number.invariant.0, c.loop-number.auto.number-end))

pub returns-clause-below : goal.returns-clause-below
returns-clause-below c = λ n o.
    let b = own_below c.loop-number.numbers.items c.loop-number.invariant.1 n o in
    omega (arith, b, c.loop-number.invariant.0, c.loop-number.auto.number-end)

pub returns-clause-ascends : goal.returns-clause-ascends
returns-clause-ascends c = own_ascend c.loop-number.numbers.items c.loop-number.invariant.1
