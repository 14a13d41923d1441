use Rattle.std.proofs.Common.{map, ap, ◌∙◌}
use Rattle.gate_modules.specs.ShortenedInside.{event_numbers, set_of}
use Rattle.gate_modules.proofs.Parting.{adds_heads, adds_no_head, adds_one_head, events_push, sets_push}
use Rattle.gate_modules.proofs.parts.+add_parts.Goals as goal

pub returns-then-number-eq0 : goal.returns-then-number-eq0
returns-then-number-eq0 t c = adds_no_head c.args.store.now c.args.to c.args.number.n (event_numbers c.args.taken.now)
    (map set_of c.args.sets.now.items) c.if-number-eq0.true

pub returns-in_ok-add_parts-in-Some-2 : goal.returns-in_ok-add_parts-in-Some-2
returns-in_ok-add_parts-in-Some-2 t c =
    adds_heads c.args.store.now c.args.to c.args.number.n _ c.in-Some.lo.n c.in-Some.hi.n
    (event_numbers c.args.taken.now) _
    (map set_of c.args.sets.now.items) _ _ c.in-Some.ensures.halves
    (ap event_numbers (c.deref.ensures.value ∙ c.in_ok-more-in-Some.ensures)
    ∙ events_push c.args.taken.now c.in-Some.event)
    c.in_ok-add_parts-in-Some.ensures c.in_ok-add_parts-in-Some-2.ensures

pub returns-in_ok-push-in-None : goal.returns-in_ok-push-in-None
returns-in_ok-push-in-None t c =
    adds_one_head c.args.store.now c.args.to c.below.ensures.sound c.args.number.n (event_numbers c.args.taken.now)
    (map set_of c.args.sets.now.items) (map set_of c.push.new.self.items) c.requires c.if-number-eq0.false
    c.in-None.ensures.halves
    (ap (map set_of) c.in_ok-push-in-None.ensures.items
    ∙ sets_push c.args.sets.now.items _ c.args.taken.now c.in_ok-events-in-None.ensures)
