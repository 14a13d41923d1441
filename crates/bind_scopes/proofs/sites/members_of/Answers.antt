use Rattle.std.proofs.Common.{map, ap, sym, ◌∙◌, ltb-false}
use Rattle.class_table.specs.TablesInside.{site_of}
use Rattle.class_table.proofs.Taken.{item_stands}
use Rattle.instantiate.proofs.OneName.{members_past, members_there}
use Rattle.bind_scopes.proofs.sites.members_of.Goals as goal

pub returns-in-Some : goal.returns-in-Some
returns-in-Some c = λ m table.
    let bodies = c.args.classes.now.bodies.items in
    let l = rw c.deref.ensures.value at c.in-Some.ensures.lookup.3.0 in
    let i = rw c.deref.ensures.value at c.in-Some.ensures.lookup.1 in
    let s = item_stands bodies c.args.body.n c.in-Some.body.now l i in
    ap (map site_of) c.deref-in-Some.ensures.value
    ∙ members_there m c.args.classes.now table c.args.body.n c.in-Some.body.now s

pub returns-in-None : goal.returns-in-None
returns-in-None c = λ m table.
    let past = rw c.deref.ensures.value at (ltb-false _ _ (sym c.in-None.ensures.lookup.0)) in
    sym (members_past m c.args.classes.now table c.args.body.n past)
