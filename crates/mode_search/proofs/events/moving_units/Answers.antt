use Rattle.std.proofs.Common.{◌≡◌, ◌<◌, List, false, length, get_or, subst, arith}
use Rattle.ar_base.specs.Numbers.{WayId}
use Rattle.ar_meaning.specs.Found.{IsAnswer}
use Rattle.gts_core.specs.declared.system.Event.{Event}
use Rattle.mode_search.specs.Events.{StillMoves}
use Rattle.ar_base.proofs.Standing.{stands_item, stands_get}
use Rattle.mode_search.proofs.Marking.{moving_more}
use Rattle.mode_search.proofs.events.moving_units.Goals as goal

pub loop-n-preserved : goal.loop-n-preserved
loop-n-preserved c =
    let p = c.args.parts.now in
    let items = c.deref-event-items.ensures.value in
    let below = subst (λ (z : List Event). c.loop-n.n < length z) items c.loop-n-test.true in
    let is = subst (λ (z : List Event). c.event-item.result ≡ get_or z c.loop-n.n c.event-item.result) items
    c.event-item.is in
    let st = stands_item p.events.items c.loop-n.n c.event-item.result below is in
    let unit = c.requires.sound.event_units c.loop-n.n c.event-item.result st in
    let here = stands_item c.loop-n.moving.items c.event-item.result.unit.n c.index.result.now
    (omega (arith, unit, c.loop-n.invariant.long)) c.index.ensures in
    let mark = stands_get c.args.marks.now c.loop-n.n false (omega (arith, below, c.requires.marks)) in
    moving_more p c.args.marks.now c.loop-n.n c.event-item.result c.loop-n.moving.items c.index.result.now
    (get_or c.args.marks.now c.loop-n.n false) c.still_moves-moves.result st here mark
    (subst (λ (z : List WayId). IsAnswer c.still_moves-moves.result
    (StillMoves c.index.result.now (get_or c.args.marks.now c.loop-n.n false) z)) c.deref.ensures.value
    c.still_moves-moves.ensures) c.loop-n.invariant
