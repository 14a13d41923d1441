use Rattle.std.proofs.Common.{arith, refl}
use Rattle.sync_expand.proofs.KnownLemmas.{first_next, first_fits}
use Rattle.sync_expand.proofs.planning.firsts_of.Goals as goal

pub overflow_add-next : goal.overflow_add-next
overflow_add-next c =
    let f = first_fits c.args.counts.now c.loop-count.count-index c.requires c.loop-count-test.true in
    omega (arith, f, c.loop-count.invariant.0)

pub loop-count-preserved : goal.loop-count-preserved
loop-count-preserved c =
    let i = c.loop-count.invariant in
    first_next c.args.counts.now c.loop-count.count-index c.loop-count.next _ c.loop-count.firsts.items
    c.push.new.self.items c.loop-count-test.true i.0 i.1 i.2 refl c.in_ok-push.ensures.items

pub returns : goal.returns
returns c =
    let i = c.loop-count.invariant in
    record { long = omega (arith, i.1, c.loop-count-test.false); each = λ n l. i.2 n (omega (arith, l, c.loop-count-test.false)) }
