use Rattle.ar_base.proofs.Standing.{along_back}
use Rattle.class_table.proofs.Taken.{item_stands}
use Rattle.class_table.proofs.Looping.{loop_start, loop_next, loop_end}
use Rattle.hierarchy.specs.Listing.{parameters}
use Rattle.bind_names.specs.Breaking.{BreaksParameter}
use Rattle.bind_names.proofs.Valued.{thing_now, thing_to, thing_back}
use Rattle.bind_names.proofs.value_rules.in_parameters.Goals as goal

pub loop-place-init : goal.loop-place-init
loop-place-init c = λ m units are. loop_start _ _

pub loop-place-preserved : goal.loop-place-preserved
loop-place-preserved c = λ m units are.
    let l = rw c.deref-node-items.ensures.value at c.loop-place-test.true in
    let i = rw c.deref-node-items.ensures.value at c.node-item.is in
    let s = item_stands c.args.scopes.now.tree.now.parameters.items c.loop-place.place c.node-item.result l i in
    let a = along_back (parameters m units) c.args.scopes.now.tree.now.parameters.items are.is_tree.parameters_are
    c.loop-place.place c.node-item.result s in
    loop_next _ _ _ _ _ _ _ s (c.loop-place.invariant m units are)
    (thing_now (parameters m units) (BreaksParameter m c.args.rule) c.loop-place.place a.0 c.in_parameter.result a.1
    (c.in_parameter.ensures m units a.0 are a.1 a.2)) c.earliest-found.ensures

pub returns : goal.returns
returns c = λ m units are.
    let l = rw c.deref-node-items.ensures.value at c.loop-place-test.false in
    loop_end _ _ _ _ _ l (thing_to (parameters m units) (BreaksParameter m c.args.rule)
    c.args.scopes.now.tree.now.parameters.items are.is_tree.parameters_are)
    (thing_back (parameters m units) (BreaksParameter m c.args.rule) c.args.scopes.now.tree.now.parameters.items
    are.is_tree.parameters_are) (c.loop-place.invariant m units are)
