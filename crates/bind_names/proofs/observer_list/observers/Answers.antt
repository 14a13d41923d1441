use Rattle.std.proofs.Common.{◌≤◌, ◌+◌, List, None, [], take, length, get_or, subst, sym, arith}
use Rattle.ar_base.specs.Lists.{Stands, Along}
use Rattle.ar_base.specs.Lists as l
use Rattle.ar_base.proofs.Standing.{along_on, along_back, along_length, one_here, stands_get, stands_within}
use Rattle.gts_core.specs.declared.system.Observer.{Observer}
use Rattle.hierarchy.specs.Listing.{observers}
use Rattle.hierarchy.specs.declared.tree.MemNode.{MemNode}
use Rattle.bind_names.proofs.ValuesRight.{along_next, along_end}
use Rattle.bind_names.specs.ListBound.{IsBoundObserver}
use Rattle.bind_names.proofs.observer_list.observers.Goals as goal

-- a node that is read nowhere
no_node : MemNode
no_node = record {
  unit = record { n = 0; of = record {} };
  name = record { n = 0; of = record {} };
  source = record { body = record { n = 0; of = record {} }; member = 0; setting = None };
}

pub loop-node-init : goal.loop-node-init
loop-node-init c = λ m units st pre.
    subst (λ (os : List Observer). Along (IsBoundObserver m units c.args.scopes.now.tree.now) [] os)
    (sym c.new-observers.ensures.items) l.none

pub observer_of-requires-clause-listed : goal.observer_of-requires-clause-listed
unfolding no_node
observer_of-requires-clause-listed c =
    let node = get_or c.deref-node-items.result.now c.loop-node.node-index no_node in
    let s = subst (λ (ds : List MemNode). Stands ds c.loop-node.node-index node) c.deref-node-items.ensures.value
    (stands_get c.deref-node-items.result.now c.loop-node.node-index no_node c.loop-node-test.true) in
    one_here c.args.scopes.now.tree.now.observers.items c.loop-node.node-index node s

pub observer_of-requires-clause-in_range : goal.observer_of-requires-clause-in_range
unfolding no_node
observer_of-requires-clause-in_range c =
    let tree = c.requires.are.is_tree in
    let node = get_or c.deref-node-items.result.now c.loop-node.node-index no_node in
    let s = subst (λ (ds : List MemNode). Stands ds c.loop-node.node-index node) c.deref-node-items.ensures.value
    (stands_get c.deref-node-items.result.now c.loop-node.node-index no_node c.loop-node-test.true) in
    let w = along_back (observers c.requires.model c.requires.units) c.args.scopes.now.tree.now.observers.items
    tree.observers_are c.loop-node.node-index node s in
    stands_within c.args.scopes.now.tree.now.units.items _ _
    (along_on c.requires.units c.args.scopes.now.tree.now.units.items tree.units_are node.unit.n w.0.unit
    w.2.node.unit).1

pub loop-node-preserved : goal.loop-node-preserved
unfolding no_node
loop-node-preserved c = λ m units st pre.
    let tree = c.args.scopes.now.tree.now in
    let i = c.loop-node.node-index in
    let node = get_or c.deref-node-items.result.now i no_node in
    let s = subst (λ (ds : List MemNode). Stands ds i node) c.deref-node-items.ensures.value
    (stands_get c.deref-node-items.result.now i no_node c.loop-node-test.true) in
    let w = along_back (observers m units) tree.observers.items st.are.is_tree.observers_are i node s in
    let bound = c.in_ok-observer.ensures m units w.0 st pre w.2 (one_here (observers m units) i w.0 w.1) in
    subst (λ (os : List Observer). Along (IsBoundObserver m units tree) (take (i + 1) (observers m units)) os)
    (sym c.in_ok-push.ensures.items)
    (along_next (observers m units) i w.0 c.loop-node.observers.items c.in_ok-observer.observer w.1 bound
    (c.loop-node.invariant m units st pre))

pub returns : goal.returns
returns c = λ m units st pre.
    let past = rw c.deref-node-items.ensures.value at c.loop-node-test.false in
    let n = along_length (observers m units) c.args.scopes.now.tree.now.observers.items st.are.is_tree.observers_are in
    let e : length (observers m units) ≤ c.loop-node.node-index = omega (arith, past, n) in
    along_end (observers m units) c.loop-node.node-index c.loop-node.observers.items e
    (c.loop-node.invariant m units st pre)
