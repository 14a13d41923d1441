use Rattle.std.proofs.Common.{◌<◌, ◌^◌, sym, subst, arith}
use Rattle.event_order.specs.Taking.{AreNumbersOf}
use Rattle.event_order.proofs.Naming.{room, numbers_more}
use Rattle.event_order.proofs.numbers.Numbers.number.Goals as goal

pub overflow_cast-number : goal.overflow_cast-number
overflow_cast-number c =
    let n = c.requires.numbers in
    let fits : c.args.event.n < 2 ^ 32 = omega arith in
    let l = room c.args.self.now.names.items c.args.event n.distinct n.fit c.requires.fresh fits in
    omega (arith, l, c.len-number.ensures)

pub returns-clause-numbers : goal.returns-clause-numbers
returns-clause-numbers c =
    let fits : c.args.event.n < 2 ^ 32 = omega arith in
    subst (λ z. AreNumbersOf z c.insert.new.self) (sym c.in_ok-push.ensures.items)
    (numbers_more c.args.self.now.names.items c.args.event c.args.self.now.numbers c.insert.new.self c.len-number.result
    (omega (arith, c.len-number.ensures)) c.in_ok-insert.ensures.updates c.requires.numbers c.requires.fresh fits)
