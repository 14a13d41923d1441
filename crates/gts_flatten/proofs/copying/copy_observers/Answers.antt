use Rattle.std.proofs.Common.{refl}
use Rattle.gts_flatten.proofs.Rows.{rows_start, rows_next}
use Rattle.gts_flatten.proofs.copying.copy_observers.Goals as goal

pub loop-observer-init : goal.loop-observer-init
loop-observer-init c = rows_start c.new-copies.result.items c.new-copies.ensures.items

pub loop-observer-preserved : goal.loop-observer-preserved
loop-observer-preserved c =
    rows_next c.args.observers.now c.loop-observer.observer-index c.observer-item.result _
    c.loop-observer.copies.items c.push.new.self.items c.loop-observer-test.true
    c.observer-item.is c.loop-observer.invariant (record { path = c.in_ok-path.ensures; kind = refl; value = c.in_ok-value.ensures }) c.in_ok-push.ensures.items
