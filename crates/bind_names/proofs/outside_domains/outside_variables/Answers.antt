use Rattle.ar_base.proofs.Standing.{along_back, one_here}
use Rattle.class_table.proofs.Taken.{item_stands}
use Rattle.class_table.proofs.Looping.{loop_start, loop_next, loop_end}
use Rattle.hierarchy.specs.Listing.{variables}
use Rattle.source_meaning.specs.Tested.{of_variable}
use Rattle.bind_names.specs.Values.{IsValue}
use Rattle.bind_names.proofs.OutsideDomains.{variable_domain, thing_now, thing_to, thing_back, known_value}
use Rattle.bind_names.proofs.outside_domains.outside_variables.Goals as goal

pub loop-place-init : goal.loop-place-init
loop-place-init c = λ m units are rows. loop_start _ _

pub loop-place-preserved : goal.loop-place-preserved
loop-place-preserved c = λ m units are rows.
    let nodes = c.args.scopes.now.tree.now.variables.items in
    let l = rw c.deref-node-items.ensures.value at c.loop-place-test.true in
    let i = rw c.deref-node-items.ensures.value at c.node-item.is in
    let s = item_stands nodes c.loop-place.place c.node-item.result l i in
    let a = along_back (variables m units) nodes are.is_tree.variables_are c.loop-place.place c.node-item.result s in
    let v = known_value (IsValue m) (variables m units) c.args.values.now rows c.loop-place.place a.0 c.value_at.result a.1
    c.value_at.ensures in
    let one = one_here (variables m units) c.loop-place.place a.0 a.1 in
    loop_next _ _ _ _ _ _ _ s (c.loop-place.invariant m units are rows)
    (thing_now m units (variables m units) c.loop-place.place a.0 c.outside.result a.1
    (c.outside.ensures m units a.0 are (of_variable one) a.2.value v (variable_domain m units a.0 c.node-item.result a.2))) c.earliest-found.ensures

pub returns : goal.returns
returns c = λ m units are rows.
    let nodes = c.args.scopes.now.tree.now.variables.items in
    let l = rw c.deref-node-items.ensures.value at c.loop-place-test.false in
    loop_end _ _ _ _ _ l (thing_to m units (variables m units) nodes are.is_tree.variables_are)
    (thing_back m units (variables m units) nodes are.is_tree.variables_are)
    (c.loop-place.invariant m units are rows)
