use Rattle.std.proofs.Common.{ap, map, List, slice_get}
use Rattle.std.specs.List.{concat}
use Rattle.ar_io.proofs.Writing.{writes_exit, writes_as, leaves_all, leaves_on, leaves_front, leaves_none, next_item, no_item}
use Rattle.ar_base.specs.Numbers.{WayId}
use Rattle.gts_core.specs.declared.system.Event.{Event}
use Rattle.gts_core.specs.Printed.{line_found, event_lines}
use Rattle.gts_core.proofs.print.events.Goals as goal

pub loop-event-init : goal.loop-event-init
loop-event-init g c = leaves_all _ _

pub returns-in_err-ways : goal.returns-in_err-ways
returns-in_err-ways g c =
    writes_exit _ _ c.from_residual.ensures.1
    (leaves_front _ _ c.loop-event.invariant
    (writes_as _ _ (ap (λ (ws : List WayId). concat
    (map (λ (w : WayId). line_found c.args.parts.now c.event-item.result.hidden
    (slice_get c.args.parts.now.ways.items w.n)) ws)) c.deref.ensures.value) c.in_err-ways.ensures)
    (next_item (λ (xs : List Event). concat (map (event_lines c.args.parts.now) xs)) c.args.all.now
    c.loop-event.event-index c.event-item.result c.loop-event-test.true c.event-item.is))

pub loop-event-preserved : goal.loop-event-preserved
loop-event-preserved g c =
    leaves_on _ _ c.loop-event.invariant
    (writes_as _ _ (ap (λ (ws : List WayId). concat
    (map (λ (w : WayId). line_found c.args.parts.now c.event-item.result.hidden
    (slice_get c.args.parts.now.ways.items w.n)) ws)) c.deref.ensures.value) c.in_ok-ways.ensures)
    (next_item (λ (xs : List Event). concat (map (event_lines c.args.parts.now) xs)) c.args.all.now
    c.loop-event.event-index c.event-item.result c.loop-event-test.true c.event-item.is)

pub returns : goal.returns
returns g c =
    leaves_none _ c.loop-event.invariant
    (no_item (λ (xs : List Event). concat (map (event_lines c.args.parts.now) xs)) c.args.all.now
    c.loop-event.event-index c.loop-event-test.false)
