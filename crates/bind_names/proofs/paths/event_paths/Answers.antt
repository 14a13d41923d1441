use Rattle.std.proofs.Common.{List, None, get_or, arith, subst, sym}
use Rattle.ar_base.specs.Lists.{Along}
use Rattle.ar_base.proofs.Standing.{stands_get, along_back}
use Rattle.hierarchy.specs.Listing.{events}
use Rattle.hierarchy.specs.Paths.{thing_path}
use Rattle.hierarchy.specs.Tie.{IsPlainNode}
use Rattle.hierarchy.specs.declared.tree.MemNode.{MemNode}
use Rattle.bind_names.proofs.Named.{texts_more, texts_end}
use Rattle.bind_names.proofs.paths.event_paths.Goals as goal

-- a node that is read nowhere
no_node : MemNode
no_node = record {
  unit = record { n = 0; of = record {} };
  name = record { n = 0; of = record {} };
  source = record { body = record { n = 0; of = record {} }; member = 0; setting = None };
}

pub loop-node-preserved : goal.loop-node-preserved
unfolding no_node
loop-node-preserved c = λ m units tree fronts.
    let along = subst (λ (ds : List MemNode). Along (IsPlainNode m units) (events m units) ds)
    (sym c.deref-node-items.ensures.value) tree.events_are in
    let nodes = c.deref-node-items.result.now in
    let w = along_back (events m units) nodes along c.loop-node.node-index (get_or nodes c.loop-node.node-index no_node)
    (stands_get nodes c.loop-node.node-index no_node c.loop-node-test.true) in
    texts_more (IsPlainNode m units) (thing_path m) (events m units) nodes along c.loop-node.node-index w.0
    c.loop-node.paths.items c.push.new.self.items c.in_ok-path.path
    w.1 (c.loop-node.invariant m units tree fronts) (c.in_ok-path.ensures m units w.0 w.2.given tree fronts w.2.node)
    c.in_ok-push.ensures.items

pub returns : goal.returns
returns c = λ m units tree fronts.
    let along = subst (λ (ds : List MemNode). Along (IsPlainNode m units) (events m units) ds)
    (sym c.deref-node-items.ensures.value) tree.events_are in
    texts_end (IsPlainNode m units) (thing_path m) (events m units) c.deref-node-items.result.now along
    c.loop-node.node-index c.loop-node.paths.items
    (omega (arith, c.loop-node-test.false)) (c.loop-node.invariant m units tree fronts)
