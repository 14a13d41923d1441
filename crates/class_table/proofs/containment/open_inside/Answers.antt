use Rattle.std.proofs.lemmas.Result.{on_ok_weaker}
use Rattle.class_table.proofs.Taken.{item_stands}
use Rattle.class_table.proofs.Searches.{inside_all, inside_no}
use Rattle.class_table.proofs.containment.open_inside.Goals as goal

pub returns-in-Some : goal.returns-in-Some
returns-in-Some c = λ d known h.
    let s = item_stands c.args.bodies.now c.args.body c.in-Some.found.now c.in-Some.ensures.lookup.3.0
    c.in-Some.ensures.lookup.1 in
    let k = rw c.deref.ensures.value at (c.add_new.ensures d known.known h) in
    on_ok_weaker _ (λ o. inside_all d _ known.as_text _ _ _ _ _ s o) k

pub returns-in-None : goal.returns-in-None
returns-in-None c = λ d known h. inside_no d _ known.as_text _ _ _ c.in-None.ensures.lookup.3 h
