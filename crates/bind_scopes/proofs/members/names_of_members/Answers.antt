use Rattle.std.proofs.Common.{ℕ, ◌≡◌, List, length, subst, arith}
use Rattle.ar_base.proofs.Standing.{along_back, along_length}
use Rattle.class_table.specs.Members.{Site, named_at}
use Rattle.hierarchy.specs.UnitsInside.{names_in}
use Rattle.class_table.proofs.Taken.{item_stands}
use Rattle.bind_scopes.specs.Members.{AddsMemberNames, HasFirst}
use Rattle.bind_scopes.proofs.NameSets.{first_none, first_more}
use Rattle.bind_scopes.proofs.members.names_of_members.Goals as goal

pub loop-node-init : goal.loop-node-init
loop-node-init c = λ m units tree. first_none m units c.new-names.result c.new-names.ensures.empty

pub loop-node-preserved : goal.loop-node-preserved
loop-node-preserved c = λ m units tree.
    let nodes = c.args.tree.now.units.items in
    let l = rw c.deref-node-items.ensures.value at c.loop-node-test.true in
    let is = rw c.deref-node-items.ensures.value at c.node-item.is in
    let s = item_stands nodes c.loop-node.node-index c.node-item.result l is in
    let w = along_back units nodes tree.units_are c.loop-node.node-index c.node-item.result s in
    let sites = c.members_of-sites.ensures m tree.table.table in
    let known = rw c.deref.ensures.value at c.in_ok-places.ensures in
    let a = subst (λ (ss : List Site). AddsMemberNames c.node-item.result.body.n (named_at m.declared ss) c.loop-node.names
    c.add_sites.new.names) sites (c.in_ok-add_sites.ensures m.declared tree.table.table.holds known) in
    first_more m units c.loop-node.node-index w.0 w.1 c.loop-node.names c.add_sites.new.names
    (subst (λ (k : ℕ). AddsMemberNames k (names_in m k) c.loop-node.names c.add_sites.new.names) w.2.body a)
    (c.loop-node.invariant m units tree)

pub returns : goal.returns
returns c = λ m units tree.
    let nodes = c.args.tree.now.units.items in
    let l = rw c.deref-node-items.ensures.value at c.loop-node-test.false in
    let k = along_length units nodes tree.units_are in
    let e : c.loop-node.node-index ≡ length units = omega (arith, l, k) in
    subst (λ (n : ℕ). HasFirst m units n c.loop-node.names) e (c.loop-node.invariant m units tree)
