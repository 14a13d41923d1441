use Rattle.std.proofs.Common.{map, ap, ◌∙◌}
use Rattle.gate_modules.specs.ShortenedInside.{event_numbers, set_of}
use Rattle.gate_modules.proofs.Parting.{adds_some_heads, adds_no_some}
use Rattle.gate_modules.proofs.parts.+add_some_parts.Goals as goal

pub returns-in_ok-add_some_parts-in-Some : goal.returns-in_ok-add_some_parts-in-Some
returns-in_ok-add_some_parts-in-Some t c =
    adds_some_heads c.args.store.now c.args.to c.args.number.n c.in-Some.event.n c.in-Some.lo.n c.in-Some.hi.n _
    (map set_of c.args.sets.now.items) _ _ c.in-Some.ensures.halves
    (ap event_numbers (c.deref.ensures.value ∙ c.in_ok-taken-in-Some.ensures)) c.in_ok-add_parts-in-Some.ensures
    c.in_ok-add_some_parts-in-Some.ensures

pub returns-in-None : goal.returns-in-None
returns-in-None t c = adds_no_some c.args.store.now c.args.to c.args.number.n (map set_of c.args.sets.now.items)
    c.in-None.ensures.halves
