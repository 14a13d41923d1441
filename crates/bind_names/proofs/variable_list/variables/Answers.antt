use Rattle.std.proofs.Common.{◌∙◌, List, ap, refl, subst, sym}
use Rattle.ar_base.proofs.Standing.{along_back, along_on}
use Rattle.class_table.proofs.Taken.{item_stands}
use Rattle.domains.specs.Domains.{Holds}
use Rattle.domains.specs.declared.Value.{Value}
use Rattle.gts_core.specs.Readings.{valuation_at}
use Rattle.hierarchy.specs.Listing.{variables}
use Rattle.bind_names.specs.Values.{IsValue}
use Rattle.bind_names.proofs.Varied.{bound_variable, sound_variable, value_found, along_at, first_none, first_next, first_all}
use Rattle.bind_names.proofs.variable_list.variables.Goals as goal

pub loop-place-init : goal.loop-place-init
loop-place-init c = λ m units tied are pre. first_none m units c.args.tree.now tied c.new-variables.result.items
    c.new-variables.ensures.items

pub loop-place-preserved : goal.loop-place-preserved
loop-place-preserved c = λ m units tied are pre.
    let nodes = c.args.tree.now.variables.items in
    let place = c.loop-place.place in
    let s = item_stands nodes place c.node-item.result (rw c.deref-node-items.ensures.value at c.loop-place-test.true)
    (rw c.deref-node-items.ensures.value at c.node-item.is) in
    let w = along_back (variables m units) nodes tied.variables_are place c.node-item.result s in
    let values = c.args.values.now.variables.items in
    let v = along_on (variables m units) values are.variables_are place w.0 w.1 in
    let e = c.value_at-value.ensures ∙ ap (λ (vs : List Value). valuation_at vs place) c.deref.ensures.value in
    let found = value_found values place v.0 v.1 in
    let value = subst (IsValue m w.0) (sym (e ∙ found)) v.2 in
    let held = subst (Holds c.node-item.result.domain) (sym (e ∙ found))
    (along_at nodes values are.variables_held place c.node-item.result v.0 s v.1) in
    first_next m units c.args.tree.now tied place w.0 c.node-item.result _
    c.loop-place.variables.items c.push.new.self.items w.1 s (c.loop-place.invariant m units tied are pre)
    (bound_variable m units w.0 c.node-item.result w.2 _
    (record { unit = refl; domain = c.in_ok-domain.ensures; state = refl }) value
    (c.in_ok-path.ensures m units w.0 w.2.given tied pre w.2.node))
    (sound_variable m units w.0 c.node-item.result w.2 _
    (record { unit = refl; domain = c.in_ok-domain.ensures; state = refl }) c.args.tree.now tied held)
    c.in_ok-push.ensures.items

pub returns : goal.returns
returns c = λ m units tied are pre.
    first_all m units c.args.tree.now tied c.loop-place.place c.loop-place.variables.items
    (rw c.deref-node-items.ensures.value at c.loop-place-test.false) (c.loop-place.invariant m units tied are pre)
