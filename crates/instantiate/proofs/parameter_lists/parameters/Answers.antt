use Rattle.std.proofs.Common.{List, None, sym, subst, arith}
use Rattle.ar_base.specs.Lists.{Along}
use Rattle.ar_base.proofs.Standing.{along_back, along_length, stands_get}
use Rattle.hierarchy.specs.Walks.{is_parameter}
use Rattle.hierarchy.specs.Listing.{parameters}
use Rattle.hierarchy.specs.Tie.{IsParameterNode}
use Rattle.hierarchy.specs.declared.tree.MemNode.{MemNode}
use Rattle.unit_rules.proofs.Pushing.{push_start, push_next, push_end}
use Rattle.instantiate.specs.Nodes.{IsNodeSo}
use Rattle.instantiate.proofs.parameter_lists.parameters.Goals as goal

pub loop-node-init : goal.loop-node-init
loop-node-init c = λ m units h. push_start (IsParameterNode m units) _ c.new-parameters.ensures.items

pub loop-node-preserved : goal.loop-node-preserved
loop-node-preserved c = λ m units h.
    let known = rw c.deref.ensures.value at c.in_ok-places.ensures in
    let a = subst (λ (ds : List MemNode). Along (IsNodeSo m units is_parameter) (parameters m units) ds)
    (sym c.deref-node-items.ensures.value) (c.in_ok-nodes.ensures m units h known) in
    let none : MemNode = record {
      unit = record { n = 0; of = record {} };
      name = record { n = 0; of = record {} };
      source = record { body = record { n = 0; of = record {} }; member = 0; setting = None };
    } in
    let s = stands_get c.deref-node-items.result.now c.loop-node.node-index none c.loop-node-test.true in
    let w = along_back (parameters m units) c.deref-node-items.result.now a c.loop-node.node-index _ s in
    push_next (IsParameterNode m units) _ _ _ _ _ _ w.1 (c.loop-node.invariant m units h)
    (c.in_ok-parameter.ensures m units w.0 h known (c.in_ok-settings.ensures m h.table.table.holds) w.2) c.in_ok-push.ensures.items

pub returns : goal.returns
returns c = λ m units h.
    let known = rw c.deref.ensures.value at c.in_ok-places.ensures in
    let a = subst (λ (ds : List MemNode). Along (IsNodeSo m units is_parameter) (parameters m units) ds)
    (sym c.deref-node-items.ensures.value) (c.in_ok-nodes.ensures m units h known) in
    let n = along_length (parameters m units) c.deref-node-items.result.now a in
    push_end (IsParameterNode m units) _ _ _ (omega arith) (c.loop-node.invariant m units h)
