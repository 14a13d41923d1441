use Rattle.std.proofs.Common.{sym, subst}
use Rattle.event_order.proofs.Walking.{IsPushing, pushing_next}
use Rattle.event_order.proofs.visiting.push_all.Goals as goal

pub loop-last-preserved : goal.loop-last-preserved
loop-last-preserved c =
    let all = c.args.operands.items in
    let old = c.args.stack.now.items in
    let rest = c.pop.new.self.items in
    subst (λ z. IsPushing all old rest z) (sym c.in_ok-push.ensures.items)
    (pushing_next all old c.loop-last.operands.items rest c.loop-last.stack.items c.in-Some.last
    c.in-Some.ensures.items c.loop-last.invariant)
