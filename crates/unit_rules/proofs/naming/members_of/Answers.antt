use Rattle.std.proofs.Common.{List, ◌∙◌, ap, map, sym, subst}
use Rattle.class_table.specs.TablesInside.{site_of}
use Rattle.class_table.specs.declared.tables.Body.{Body}
use Rattle.class_table.proofs.Taken.{item_stands}
use Rattle.ar_base.specs.Lists.{Stands}
use Rattle.unit_rules.proofs.Nodes.{members_here, members_past}
use Rattle.unit_rules.proofs.naming.members_of.Goals as goal

pub returns-in-None : goal.returns-in-None
returns-in-None c = λ m u t e.
    let past = rw c.deref.ensures.value at c.in-None.ensures.lookup.3 in
    members_past u t e past

pub returns-in-Some : goal.returns-in-Some
returns-in-Some c = λ m u t e.
    let here = item_stands c.deref.result.now c.args.body.n c.in-Some.found.now c.in-Some.ensures.lookup.3.0
    c.in-Some.ensures.lookup.1 in
    let at = members_here u t e c.in-Some.found.now
    (subst (λ (bs : List Body). Stands bs c.args.body.n c.in-Some.found.now) c.deref.ensures.value here) in
    at ∙ ap (map site_of) (sym c.deref-in-Some.ensures.value)
