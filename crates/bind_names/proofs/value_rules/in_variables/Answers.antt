use Rattle.ar_base.proofs.Standing.{along_back}
use Rattle.class_table.proofs.Taken.{item_stands}
use Rattle.class_table.proofs.Looping.{loop_start, loop_next, loop_end}
use Rattle.hierarchy.specs.Listing.{variables}
use Rattle.bind_names.specs.Breaking.{BreaksValueInForce}
use Rattle.std.proofs.Common.{sym, subst}
use Rattle.hierarchy.specs.Tie.{HasAttribute}
use Rattle.hierarchy.specs.declared.tree.Attribute.{Attribute}
use Rattle.bind_scopes.specs.declared.scopes.Scope.TheVariants as scope
use Rattle.bind_names.proofs.Valued.{thing_now, thing_to, thing_back, variable_scope, variable_of_kind}
use Rattle.bind_names.proofs.value_rules.in_variables.Goals as goal

pub loop-node-init : goal.loop-node-init
loop-node-init c = record { found = λ m units are. loop_start _ _; last = tt }

pub loop-node-preserved : goal.loop-node-preserved
loop-node-preserved c =
    let test = c.in_variable-test.ensures.tested c.loop-node.invariant.last in
    record {
      found = λ m units are.
          let l = rw c.deref-node-items.ensures.value at c.loop-node-test.true in
          let i = rw c.deref-node-items.ensures.value at c.node-item.is in
          let s = item_stands c.args.scopes.now.tree.now.variables.items c.loop-node.node-index c.node-item.result l i in
          let a = along_back (variables m units) c.args.scopes.now.tree.now.variables.items are.is_tree.variables_are
          c.loop-node.node-index c.node-item.result s in
          let h = subst (λ (z : Attribute). HasAttribute m units a.0 z) (sym c.in_variable-test.ensures.value) a.2.value in
          loop_next _ _ _ _ _ _ _ s (c.loop-node.invariant.found m units are)
          (thing_now (variables m units) (BreaksValueInForce m c.args.rule) c.loop-node.node-index a.0
          c.in_variable-test.result.2 a.1
          (test.place m units a.0 are (variable_scope m units a.0 c.node-item.result a.2 scope.Constants) h
          (variable_of_kind m units a.0 c.node-item.result a.2 c.in_variable-test.result.1
          c.in_variable-test.ensures.kind))) c.earliest-found.ensures;
      last = test;
    }

pub returns : goal.returns
returns c = λ m units are.
    let l = rw c.deref-node-items.ensures.value at c.loop-node-test.false in
    loop_end _ _ _ _ _ l (thing_to (variables m units) (BreaksValueInForce m c.args.rule)
    c.args.scopes.now.tree.now.variables.items are.is_tree.variables_are)
    (thing_back (variables m units) (BreaksValueInForce m c.args.rule) c.args.scopes.now.tree.now.variables.items
    are.is_tree.variables_are) (c.loop-node.invariant.found m units are)
