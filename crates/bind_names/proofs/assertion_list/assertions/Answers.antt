use Rattle.std.proofs.Common.{◌≤◌, ◌+◌, ℕ, List, [], take, take_all, length, unwrap_or, slice_get, refl, sym, ap, ◌∙◌, subst, arith}
use Rattle.std.specs.List.{flat_map}
use Rattle.ar_base.specs.Lists.{Stands}
use Rattle.ar_base.proofs.Standing.{along_back, along_length}
use Rattle.class_table.proofs.Taken.{item_stands}
use Rattle.gts_core.specs.declared.bound.Act.{Act}
use Rattle.hierarchy.specs.Listing.{all_in, asserted, assertions, forms_at}
use Rattle.hierarchy.specs.Units.{UnitPath}
use Rattle.bind_names.specs.Adding.{AddsAssertions}
use Rattle.bind_names.proofs.Asserted.{adds_none, adds_join, units_next, bound_assertions}
use Rattle.bind_names.proofs.assertion_list.assertions.Goals as goal

pub loop-place-init : goal.loop-place-init
loop-place-init c = λ m units st.
    subst (λ (acts : List Act). AddsAssertions m units c.args.scopes.now.tree.now [] [] acts)
    (sym c.new-acts.ensures.items) (adds_none m units c.args.scopes.now.tree.now [] [] refl)

pub loop-place-preserved : goal.loop-place-preserved
loop-place-preserved c = λ m units st.
    let tree = c.args.scopes.now.tree.now in
    let i = c.loop-place.place in
    let s = item_stands tree.units.items i c.node-item.result
    (rw c.deref-node-items.ensures.value at c.loop-place-test.true)
    (rw c.deref-node-items.ensures.value at c.node-item.is) in
    let w = along_back units tree.units.items st.are.is_tree.units_are i c.node-item.result s in
    let at = subst (λ (n : ℕ). Stands units n w.0) (sym c.new-unit.ensures) w.1 in
    adds_join m units tree (assertions m (take i units)) (all_in w.0 (flat_map asserted (forms_at m w.0)))
    (assertions m (take (i + 1) units)) [] c.loop-place.acts.items c.add_all.new.acts.items
    (units_next m units i w.0 w.1) (c.loop-place.invariant m units st) (c.in_ok-add_all.ensures m units w.0 st at
    (c.members_of-sites.ensures m st.are.is_tree.table.table
    ∙ ap (λ (k : ℕ). unwrap_or (slice_get m.members k) []) w.2.body))

pub returns : goal.returns
returns c = λ m units st.
    let tree = c.args.scopes.now.tree.now in
    let past = rw c.deref-node-items.ensures.value at c.loop-place-test.false in
    let n = along_length units tree.units.items st.are.is_tree.units_are in
    let e : length units ≤ c.loop-place.place = omega (arith, past, n) in
    bound_assertions m units tree c.loop-place.acts.items
    (subst (λ (us : List UnitPath). AddsAssertions m units tree (assertions m us) [] c.loop-place.acts.items)
    (take_all c.loop-place.place units e) (c.loop-place.invariant m units st))
