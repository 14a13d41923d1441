use Rattle.std.proofs.Common.{◌≡◌, ◌-◌, ◌∙◌, Bool, List, true, false, length, replicate, get_or, refl, ap, subst, arith, rules}
use Rattle.std.proofs.lemmas.List.{length-replicate}
use Rattle.ar_base.specs.Lists.{Stands}
use Rattle.ar_base.proofs.Items.{none_marked}
use Rattle.ar_base.proofs.Standing.{stands_get}
use Rattle.sync_expand.proofs.Walking.{walk_start, walk_next, walk_end, part_within, event_ahead, walk_spent}
use Rattle.sync_expand.proofs.reach.reached_from.Goals as goal

pub loop-event-init : goal.loop-event-init
loop-event-init c =
    let count = length c.args.events.now in
    let filled : c.in_ok-marks.marks.items ≡ replicate count false =
    c.in_ok-marks.ensures.items_if_clones_equal (search rules) in
    walk_start c.args.events.now c.requires.expandable c.args.from.n c.args.from
    (record { marks = c.in_ok-marks.marks; ahead = c.new.result }) _ refl
    (ap length filled ∙ length-replicate count false)
    (λ n s. none_marked count n (subst (λ (z : List Bool). Stands z n true) filled s)) c.new.ensures.items
    c.in_ok-meet.ensures

pub bounds-events-event : goal.bounds-events-event
bounds-events-event c =
    event_ahead c.args.events.now c.requires.expandable c.args.from.n c.in-Some.event c.loop-event.walk c.pop.new.self.items
    c.in-Some.ensures.items c.loop-event.invariant

pub meet_parts-requires : goal.meet_parts-requires
meet_parts-requires c = λ x h.
    let l = event_ahead c.args.events.now c.requires.expandable c.args.from.n c.in-Some.event c.loop-event.walk c.pop.new.self.items
    c.in-Some.ensures.items c.loop-event.invariant in
    let d = get_or c.args.events.now c.in-Some.event.n c.index-events-event.result in
    let s = stands_get c.args.events.now c.in-Some.event.n c.index-events-event.result l in
    let w = part_within c.args.events.now c.requires.expandable c.args.from.n c.in-Some.event d x s (rw c.deref.ensures.value at h) in
    let n = c.loop-event.invariant.long in
    omega (arith, w, n)

pub loop-event-preserved : goal.loop-event-preserved
loop-event-preserved c =
    let l = event_ahead c.args.events.now c.requires.expandable c.args.from.n c.in-Some.event c.loop-event.walk c.pop.new.self.items
    c.in-Some.ensures.items c.loop-event.invariant in
    let d = get_or c.args.events.now c.in-Some.event.n c.index-events-event.result in
    let s = stands_get c.args.events.now c.in-Some.event.n c.index-events-event.result l in
    walk_next c.args.events.now c.requires.expandable c.args.from.n c.in-Some.event d
    c.loop-event.walk _ _ s refl c.in-Some.ensures.items (rw c.deref.ensures.value at c.in_ok-meet_parts.ensures)
    c.loop-event.invariant

pub loop-event-smaller : goal.loop-event-smaller
loop-event-smaller c = walk_spent _ c.loop-event.walk _ _ c.in-Some.event refl c.in-Some.ensures.items
    c.in_ok-meet_parts.ensures

pub returns : goal.returns
returns c = walk_end c.args.events.now c.requires.expandable c.args.from.n c.loop-event.walk (search rules)
    c.loop-event.invariant
