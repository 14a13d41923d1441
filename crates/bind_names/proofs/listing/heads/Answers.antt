use Rattle.std.proofs.Common.{◌<◌, ◌≤◌, ◌^◌, List, [], None, length, get_or, arith, sym, ◌∙◌, subst}
use Rattle.ar_base.specs.Lists.{Stands, Along, none}
use Rattle.ar_base.proofs.Standing.{along_back, along_length, stands_get, stands_within}
use Rattle.class_table.proofs.Taken.{item_stands}
use Rattle.hierarchy.specs.Listing.{events}
use Rattle.hierarchy.specs.Paths.{thing_path}
use Rattle.hierarchy.specs.declared.tree.MemNode.{MemNode}
use Rattle.gts_core.specs.declared.bound.DeclaredWay.{DeclaredWay}
use Rattle.bind_names.specs.Ways.{IsBoundWay}
use Rattle.bind_names.proofs.Named.{text_here}
use Rattle.bind_names.proofs.Wayed.{rows_start, rows_more, rows_end}
use Rattle.bind_names.proofs.listing.heads.Goals as goal

-- a node that is read nowhere
no_node : MemNode
no_node = record {
  unit = record { n = 0; of = record {} };
  name = record { n = 0; of = record {} };
  source = record { body = record { n = 0; of = record {} }; member = 0; setting = None };
}

pub index-requires : goal.index-requires
index-requires c =
    let h = c.requires in
    let is = h.are.is_tree in
    let marks = c.in_ok-hidden.ensures h.model h.units is in
    let n = along_length (events h.model h.units) c.args.scopes.now.tree.now.events.items is.events_are in
    let l = rw c.deref-node-items.ensures.value at c.loop-place-test.true in
    let same = marks.same in
    omega (arith, n, l, same)

pub loop-place-init : goal.loop-place-init
loop-place-init c = λ m units is pre. rows_start c.new-events.result.items c.new-events.ensures.items

pub loop-place-preserved : goal.loop-place-preserved
unfolding no_node
loop-place-preserved c = λ m units is pre.
    let nodes = c.args.scopes.now.tree.now.events.items in
    let node = get_or c.deref-node-items.result.now c.loop-place.place no_node in
    let there = stands_get c.deref-node-items.result.now c.loop-place.place no_node c.loop-place-test.true in
    let s = subst (λ (ds : List MemNode). Stands ds c.loop-place.place node) c.deref-node-items.ensures.value there in
    let w = along_back (events m units) nodes is.events_are c.loop-place.place node s in
    let path = c.text_there.ensures
    ∙ text_here (thing_path m) (events m units) c.args.paths.now pre c.loop-place.place w.0 w.1 in
    let hidden = c.in_ok-hidden.ensures m units is in
    let marks = c.in_ok-hidden.hidden.items in
    let long = stands_within (events m units) c.loop-place.place w.0 w.1 in
    let same = hidden.same in
    let marked = item_stands marks c.loop-place.place c.index.result.now (omega (arith, long, same)) c.index.ensures in
    let told = hidden.tell c.loop-place.place w.0 c.index.result.now w.1 marked in
    let tree = c.args.scopes.now.tree.now in
    let e = sym c.new-ways.ensures.items in
    rows_more (events m units) c.loop-place.place w.0 _ c.loop-place.events.items
    c.push.new.self.items w.1 (c.loop-place.invariant m units is pre)
    (record {
      head = record { path = c.new-path.ensures ∙ c.in_ok-text.ensures.ok ∙ path; unit = w.2.node.unit; hidden = told };
      few = subst (λ (ws : List DeclaredWay). length ws < 2 ^ 32) e (omega arith);
      ways = subst (λ (ws : List DeclaredWay). Along (IsBoundWay m units tree w.0.unit) [] ws) e none;
    }) c.in_ok-push.ensures.items

pub returns : goal.returns
returns c = λ m units is pre.
    let l = rw c.deref-node-items.ensures.value at c.loop-place-test.false in
    let n = along_length (events m units) c.args.scopes.now.tree.now.events.items is.events_are in
    let e : length (events m units) ≤ c.loop-place.place = omega (arith, l, n) in
    rows_end (events m units) c.loop-place.place c.loop-place.events.items e (c.loop-place.invariant m units is pre)
