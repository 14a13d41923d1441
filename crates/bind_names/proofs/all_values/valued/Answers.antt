use Rattle.std.proofs.Common.{Option, subst}
use Rattle.ar_base.specs.declared.places.Place.{Place}
use Rattle.class_table.specs.Earliest.{IsEarliest}
use Rattle.source_meaning.specs.Rules.{BreaksValue}
use Rattle.bind_names.specs.Values.{values, outside}
use Rattle.bind_names.proofs.AllValued.{whole_earliest, all_valued, none_breaks}
use Rattle.bind_names.proofs.all_values.valued.Goals as goal

pub returns-in-Some : goal.returns-in-Some
returns-in-Some c = λ m units are kept.
    let ps = c.in_ok-parameters.ensures m units are kept in
    let vs = c.in_ok-variables.ensures m units are kept (rw c.deref.ensures.value ps) in
    let e = whole_earliest m units c.outside_parameters-first.result c.outside_variables.result c.earliest.result
    (c.outside_parameters-first.ensures m units are (rw c.deref-2.ensures.value ps))
    (c.outside_variables.ensures m units are (rw c.deref-3.ensures.value vs)) c.earliest.ensures in
    outside (subst (λ (z : Option Place). IsEarliest (BreaksValue m units) z) c.in-Some.is e)

pub returns-in-None : goal.returns-in-None
returns-in-None c = λ m units are kept.
    let ps = c.in_ok-parameters.ensures m units are kept in
    let vs = c.in_ok-variables.ensures m units are kept (rw c.deref.ensures.value ps) in
    let e = whole_earliest m units c.outside_parameters-first.result c.outside_variables.result c.earliest.result
    (c.outside_parameters-first.ensures m units are (rw c.deref-2.ensures.value ps))
    (c.outside_variables.ensures m units are (rw c.deref-3.ensures.value vs)) c.earliest.ensures in
    values (all_valued m units (none_breaks c.earliest.result c.in-None.is e) c.args.scopes.now.tree.now are.is_tree _ ps
    vs) (subst (λ (z : Option Place). IsEarliest (BreaksValue m units) z) c.in-None.is e)
