use Rattle.std.proofs.Common.{get_or, arith}
use Rattle.ar_base.specs.NumbersInside.{EventId}
use Rattle.ar_base.proofs.Standing.{one_here, one_none, stands_get, stands_map}
use Rattle.cut_check.specs.Flat.{flat_event_numbers}
use Rattle.cut_check.proofs.LookupLemmas.{put_more}
use Rattle.cut_check.proofs.lookup.put_events.Goals as goal

-- what is read past the end
abbrev none : EventId
none = record { n = 0; of = record {} }

pub loop-event-init : goal.loop-event-init
loop-event-init c = λ n. ((λ s. absurd (c.clear.ensures n s)), (λ o. absurd (one_none n o)))

pub set-requires : goal.set-requires
set-requires c =
    let es = c.args.events.now in
    let i = c.loop-event.event-index in
    let k = c.requires (get_or es i none).n
    (one_here (flat_event_numbers es) i (get_or es i none).n
    (stands_map (λ (e : EventId). e.n) es i (get_or es i none) (stands_get es i none c.loop-event-test.true))) in
    omega (arith, k)

pub loop-event-preserved : goal.loop-event-preserved
loop-event-preserved c = put_more _ _ c.args.events.now c.loop-event.event-index none c.loop-event-test.true
    c.set.ensures c.loop-event.invariant
