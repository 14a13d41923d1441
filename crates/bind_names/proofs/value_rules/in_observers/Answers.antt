use Rattle.std.proofs.Common.{List, None, get_or, subst}
use Rattle.ar_base.specs.Lists.{Stands}
use Rattle.ar_base.proofs.Standing.{along_back, stands_get}
use Rattle.class_table.proofs.Looping.{loop_start, loop_next, loop_end}
use Rattle.hierarchy.specs.Listing.{observers}
use Rattle.hierarchy.specs.declared.tree.MemNode.{MemNode}
use Rattle.bind_names.specs.Breaking.{BreaksObserver}
use Rattle.bind_names.proofs.Valued.{thing_now, thing_to, thing_back, observer_has}
use Rattle.bind_names.proofs.value_rules.in_observers.Goals as goal

pub loop-node-init : goal.loop-node-init
loop-node-init c = λ m units are. loop_start _ _

pub loop-node-preserved : goal.loop-node-preserved
loop-node-preserved c = λ m units are.
    let none : MemNode = record {
      unit = record { n = 0; of = record {} };
      name = record { n = 0; of = record {} };
      source = record { body = record { n = 0; of = record {} }; member = 0; setting = None };
    } in
    let s = subst (λ (ys : List MemNode). Stands ys c.loop-node.node-index
    (get_or c.deref-node-items.result.now c.loop-node.node-index none)) c.deref-node-items.ensures.value
    (stands_get c.deref-node-items.result.now c.loop-node.node-index none c.loop-node-test.true) in
    let a = along_back (observers m units) c.args.scopes.now.tree.now.observers.items are.is_tree.observers_are
    c.loop-node.node-index _ s in
    loop_next _ _ _ _ _ _ _ s (c.loop-node.invariant m units are)
    (thing_now (observers m units) (BreaksObserver m c.args.rule) c.loop-node.node-index a.0 c.in_observer.result
    a.1 (c.in_observer.ensures m units a.0 are a.2
    (observer_has m units are.is_tree.table.kept c.loop-node.node-index a.0 a.1))) c.earliest-found.ensures

pub returns : goal.returns
returns c = λ m units are.
    let l = rw c.deref-node-items.ensures.value at c.loop-node-test.false in
    loop_end _ _ _ _ _ l (thing_to (observers m units) (BreaksObserver m c.args.rule)
    c.args.scopes.now.tree.now.observers.items are.is_tree.observers_are)
    (thing_back (observers m units) (BreaksObserver m c.args.rule) c.args.scopes.now.tree.now.observers.items
    are.is_tree.observers_are) (c.loop-node.invariant m units are)
