use Rattle.sync_expand.proofs.Placed.{item_stands}
use Rattle.gts_flatten.proofs.Fitted.{observers_next}
use Rattle.gts_flatten.proofs.fitting.observer_nodes.Goals as goal

pub loop-observer-preserved : goal.loop-observer-preserved
loop-observer-preserved c =
    let s = item_stands c.args.observers.now c.loop-observer.observer-index c.observer-item.result
    c.loop-observer-test.true c.observer-item.is in
    observers_next c.args.observers.now c.loop-observer.observer-index c.observer-item.result c.loop-observer.total
    c.nodes.result c.sum-total.result s c.loop-observer.invariant c.nodes.ensures c.sum-total.ensures
