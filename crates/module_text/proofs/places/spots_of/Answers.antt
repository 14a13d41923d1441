use Rattle.std.proofs.Common.{◌↔◌, ℕ, List, [], sym, subst, take_all}
use Rattle.ar_base.specs.Lists.{IsOneOf}
use Rattle.ar_base.specs.NumbersInside.{EventId}
use Rattle.gate_modules.specs.ShortenedInside.{event_numbers}
use Rattle.module_text.specs.Places.{IsPlaced}
use Rattle.module_text.proofs.Placing.{none_placed, placed_more, sorted_ascends, sorted_same}
use Rattle.module_text.proofs.places.spots_of.Goals as goal

-- what is read past the end
abbrev none : EventId
none = record { n = 0; of = record {} }

pub loop-event-init : goal.loop-event-init
loop-event-init c = λ p. subst (λ (z : List ℕ). IsOneOf z p ↔ IsPlaced c.args.places.now [] p)
    (sym c.new-spots.ensures.items) (none_placed c.args.places.now p)

pub loop-event-preserved : goal.loop-event-preserved
loop-event-preserved c = placed_more c.args.places.now c.args.events.now c.loop-event.event-index none
    c.loop-event.spots.items c.add_places.new.spots.items c.loop-event-test.true c.loop-event.invariant
    c.in_ok-add_places.ensures

pub returns-clause-ascends : goal.returns-clause-ascends
returns-clause-ascends c = sorted_ascends c.sort_unstable.new.self.items c.dedup.new.self.items
    c.sort_unstable.ensures.sorted c.dedup.ensures.filtered

pub returns-clause-each : goal.returns-clause-each
returns-clause-each c = λ p.
    let all = c.loop-event.spots.items in
    let same = sorted_same all c.sort_unstable.new.self.items c.dedup.new.self.items c.sort_unstable.ensures.permutation
    c.dedup.ensures.filtered p in
    let are = subst (λ (z : List EventId). IsOneOf all p ↔ IsPlaced c.args.places.now (event_numbers z) p)
    (take_all c.loop-event.event-index c.args.events.now c.loop-event-test.false) (c.loop-event.invariant p) in
    (λ o. are.0 (same.0 o), λ h. same.1 (are.1 h))
