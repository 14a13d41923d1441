use Rattle.std.proofs.Common.{◌≤◌, ◌+◌, List, [], length, take, sym, subst, arith}
use Rattle.ar_base.specs.Lists.{Along}
use Rattle.ar_base.specs.Lists as along
use Rattle.ar_base.proofs.Standing.{along_back, along_length, one_here}
use Rattle.class_table.proofs.Taken.{item_stands}
use Rattle.domains.specs.declared.Value.{Value}
use Rattle.hierarchy.specs.Listing.{variables, parameters}
use Rattle.source_meaning.specs.Tested.{of_variable}
use Rattle.bind_names.specs.Values.{IsValue}
use Rattle.bind_names.proofs.Ordering.{all_before}
use Rattle.bind_names.proofs.ValuesRight.{along_next, along_end, all_first}
use Rattle.bind_names.proofs.Remembering.{known_none}
use Rattle.bind_names.proofs.computing.variable_values.Goals as goal

pub loop-node-init : goal.loop-node-init
loop-node-init c = record {
  values = λ m units are kept known. subst (λ (z : List Value). Along (IsValue m) [] z)
      (sym c.new-values.ensures.items) along.none;
  known = known_none c.args.scopes.now c.args.parameters.now c.new-known.result c.new-known.ensures.empty;
}

pub loop-node-preserved : goal.loop-node-preserved
loop-node-preserved c = record {
  values = λ m units are kept known.
      let nodes = c.args.scopes.now.tree.now.variables.items in
      let l = rw c.deref-node-items.ensures.value at c.loop-node-test.true in
      let i = rw c.deref-node-items.ensures.value at c.node-item.is in
      let s = item_stands nodes c.loop-node.node-index c.node-item.result l i in
      let a = along_back (variables m units) nodes are.is_tree.variables_are c.loop-node.node-index c.node-item.result
      s in
      let has = of_variable (one_here (variables m units) c.loop-node.node-index a.0 a.1) in
      let first = all_first m units c.args.parameters.now known in
      let one = c.in_ok-value.ensures.value c.loop-node.invariant.known in
      let v = one.value m units a.0 (length (parameters m units)) are kept has a.2.value first (all_before m units a.0) in
      subst (λ (z : List Value). Along (IsValue m) (take (c.loop-node.node-index + 1) (variables m units)) z)
      (sym c.in_ok-push.ensures.items)
      (along_next (variables m units) c.loop-node.node-index a.0 c.loop-node.values.items c.in_ok-value.value a.1 v
      (c.loop-node.invariant.values m units are kept known));
  known = c.in_ok-value.ensures.known c.loop-node.invariant.known;
}

pub returns : goal.returns
returns c = λ m units are kept known.
    let nodes = c.args.scopes.now.tree.now.variables.items in
    let l : length nodes ≤ c.loop-node.node-index = rw c.deref-node-items.ensures.value at c.loop-node-test.false in
    let e = along_length (variables m units) nodes are.is_tree.variables_are in
    along_end (variables m units) c.loop-node.node-index c.loop-node.values.items (omega (arith, l, e))
    (c.loop-node.invariant.values m units are kept known)
