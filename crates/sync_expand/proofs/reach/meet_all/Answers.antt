use Rattle.std.proofs.Common.{Bool, false, get_or, arith}
use Rattle.ar_base.specs.NumbersInside.{EventId}
use Rattle.ar_base.proofs.Standing.{stands_get, one_here}
use Rattle.sync_expand.proofs.Walking.{parts_start, parts_next, parts_end}
use Rattle.sync_expand.proofs.reach.meet_all.Goals as goal

pub loop-event-init : goal.loop-event-init
loop-event-init c = parts_start _ _

pub meet-requires : goal.meet-requires
meet-requires c =
    let parts = c.args.parts.now in
    let i = c.loop-event.event-index in
    let part : Bool × EventId = get_or parts i (false, record { n = 0; of = record {} }) in
    let s = one_here parts i part (stands_get parts i (false, record { n = 0; of = record {} })
    c.loop-event-test.true) in
    let h = c.requires part.1 (record { must = part.0; is_part = s }) in
    let l = c.loop-event.invariant.long in
    omega (arith, h, l)

pub loop-event-preserved : goal.loop-event-preserved
loop-event-preserved c =
    parts_next c.args.parts.now c.loop-event.event-index _ _ _ _
    (stands_get c.args.parts.now c.loop-event.event-index _ c.loop-event-test.true) c.loop-event.invariant
    c.in_ok-meet.ensures

pub returns : goal.returns
returns c = parts_end c.args.parts.now c.loop-event.event-index _ _ c.loop-event-test.false c.loop-event.invariant
