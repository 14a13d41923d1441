use Rattle.class_table.proofs.Taken.{item_stands}
use Rattle.unit_rules.proofs.Joined.{no_row, no_place, at_place}
use Rattle.unit_rules.proofs.totals.at_site.Goals as goal

pub returns-in-None : goal.returns-in-None
returns-in-None c = λ d bodies shown own. no_row d bodies _ shown own c.args.site _ c.in-None.ensures.lookup.3
    c.none.ensures

pub returns-in-None-get : goal.returns-in-None-get
returns-in-None-get c = λ d bodies shown own.
    let s = item_stands c.args.rows.now c.args.site.0.n c.in-Some.row.now c.in-Some.ensures.lookup.3.0
    c.in-Some.ensures.lookup.1 in
    let h = rw c.deref.ensures.value at c.in-None-get.ensures.lookup.3 in
    no_place d bodies _ shown own c.args.site c.in-Some.row.now _ s h c.none-in-None-get.ensures

pub returns-in-Some-get : goal.returns-in-Some-get
returns-in-Some-get c = λ d bodies shown own.
    let s = item_stands c.args.rows.now c.args.site.0.n c.in-Some.row.now c.in-Some.ensures.lookup.3.0
    c.in-Some.ensures.lookup.1 in
    let l = rw c.deref.ensures.value at c.in-Some-get.ensures.lookup.3.0 in
    let e = rw c.deref.ensures.value at c.in-Some-get.ensures.lookup.1 in
    at_place d bodies _ shown own c.args.site c.in-Some.row.now _ s
    (item_stands c.in-Some.row.now.items c.args.site.1 c.in-Some-get.counts.now l e)
