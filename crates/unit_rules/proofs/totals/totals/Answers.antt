use Rattle.unit_rules.proofs.totals.totals.Goals as goal

pub returns : goal.returns
returns c = λ m units h.
    let shown = h.table.table.holds in
    let known = rw c.deref.ensures.value at c.in_ok-places.ensures in
    let rows = rw (c.deref-2.ensures.value, c.deref-3.ensures.value) at (c.in_ok-rows.ensures m.declared) in
    let counts = rw (c.deref-4.ensures.value, c.deref-5.ensures.value) at (c.in_ok-counts.ensures m.declared) in
    c.of_units.ensures m units c.args.classes.now h
    (rw c.deref-6.ensures.value (counts shown.bodies (rows shown.types known)))
