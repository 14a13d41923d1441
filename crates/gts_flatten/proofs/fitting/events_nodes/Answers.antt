use Rattle.std.proofs.Common.{arith}
use Rattle.sync_expand.proofs.Placed.{item_stands}
use Rattle.gts_flatten.proofs.Fitted.{events_next, events_end}
use Rattle.gts_flatten.proofs.fitting.events_nodes.Goals as goal

pub loop-event-preserved : goal.loop-event-preserved
loop-event-preserved c =
    let s = item_stands c.args.events.now c.loop-event.event-index c.event-item.result c.loop-event-test.true
    c.event-item.is in
    let k = rw c.deref.ensures.value at c.ways_nodes.ensures in
    events_next c.args.events.now c.loop-event.event-index c.event-item.result c.loop-event.total c.ways_nodes.result
    c.sum-total.result s c.loop-event.invariant k c.sum-total.ensures

pub returns : goal.returns
returns c = events_end c.args.events.now c.loop-event.event-index c.loop-event.total (omega arith)
    c.loop-event.invariant
