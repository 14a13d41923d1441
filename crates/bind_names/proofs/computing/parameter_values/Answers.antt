use Rattle.std.proofs.Common.{◌≤◌, ◌+◌, List, length, sym, subst, arith}
use Rattle.ar_base.specs.Lists as along
use Rattle.ar_base.proofs.Standing.{along_back, along_length, one_here}
use Rattle.ar_base.proofs.Truths.{not_read, is_read}
use Rattle.class_table.proofs.Taken.{item_stands}
use Rattle.domains.specs.declared.Value.{Value}
use Rattle.hierarchy.specs.Listing.{parameters}
use Rattle.source_meaning.specs.Tested.{of_parameter}
use Rattle.bind_names.specs.Values.{AreFirst, IsParameterValue}
use Rattle.bind_names.proofs.Ordering.{parameter_before}
use Rattle.bind_names.proofs.ValuesRight.{along_next, along_end, parameter_attribute}
use Rattle.bind_names.proofs.computing.parameter_values.Goals as goal
use Rattle.bind_names.proofs.computing.parameter_values.Goals.{then-is_read+in_ok-value, else-is_read}

pub loop-place-init : goal.loop-place-init
loop-place-init c = λ m units are kept. subst (λ (z : List Value). AreFirst m units 0 z)
    (sym c.new-values.ensures.items) along.none

pub loop-place-preserved : goal.loop-place-preserved
loop-place-preserved c = λ m units are kept.
    let nodes = c.args.scopes.now.tree.now.parameters.items in
    let l = rw c.deref-node-items.ensures.value at c.loop-place-test.true in
    let i = rw c.deref-node-items.ensures.value at c.node-item.is in
    let s = item_stands nodes c.loop-place.place c.node-item.result l i in
    let a = along_back (parameters m units) nodes are.is_tree.parameters_are c.loop-place.place c.node-item.result s in
    let before = c.loop-place.invariant m units are kept in
    let v : IsParameterValue m a.0 c.if-is_read.value = elim c.if-is_read.branch [
      | then-is_read+in_ok-value w ↦
          let k = is_read c.is_read.result w.if-is_read.true (c.is_read.ensures.valued m units a.0 are a.1) in
          let has = of_parameter (one_here (parameters m units) c.loop-place.place a.0 a.1) k in
          let names = parameter_before are.is_tree.table.kept are.is_tree.are_units a.0 c.loop-place.place
          c.node-item.result.node.unit.n a.1 a.2.node.unit k in
          subst (IsParameterValue m a.0) (sym w.value-is) (record {
            value = λ r. w.in_ok-value.ensures.value m units a.0 c.loop-place.place are kept has
                (parameter_attribute m units a.0 c.node-item.result a.2 k) (rw w.deref.ensures.value before) names;
          })
      | else-is_read w ↦ subst (IsParameterValue m a.0) (sym w.value-is) (record {
        value = λ k. absurd (not_read c.is_read.result w.if-is_read.false
            (c.is_read.ensures.valued m units a.0 are a.1) k);
      })
    ] in
    subst (λ (z : List Value). AreFirst m units (c.loop-place.place + 1) z) (sym c.in_ok-push.ensures.items)
    (along_next (parameters m units) c.loop-place.place a.0 c.loop-place.values.items c.if-is_read.value a.1 v before)

pub returns : goal.returns
returns c = λ m units are kept.
    let nodes = c.args.scopes.now.tree.now.parameters.items in
    let l : length nodes ≤ c.loop-place.place = rw c.deref-node-items.ensures.value at c.loop-place-test.false in
    let e = along_length (parameters m units) nodes are.is_tree.parameters_are in
    along_end (parameters m units) c.loop-place.place c.loop-place.values.items (omega (arith, l, e))
    (c.loop-place.invariant m units are kept)
