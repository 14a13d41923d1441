use Rattle.std.proofs.Common.{Option, Some, None, sym, subst}
use Rattle.ar_base.specs.declared.places.Place.{Place}
use Rattle.ar_base.proofs.Standing.{along_back, one_here}
use Rattle.class_table.specs.Earliest.{IsEarlierOf, no_first, no_second}
use Rattle.class_table.proofs.Taken.{item_stands}
use Rattle.class_table.proofs.Looping.{loop_start, loop_next, loop_end}
use Rattle.hierarchy.specs.Listing.{parameters}
use Rattle.source_meaning.specs.Tested.{of_parameter}
use Rattle.bind_names.specs.Values.{IsParameterValue}
use Rattle.bind_names.proofs.OutsideDomains.{parameter_domain, no_domain, domain_valued, thing_now, thing_to, thing_back, known_value}
use Rattle.bind_names.proofs.ValuesRight.{parameter_attribute}
use Rattle.bind_names.proofs.outside_domains.outside_parameters.Goals as goal
use Rattle.bind_names.proofs.outside_domains.outside_parameters.Goals.{in-Some, in_default}

-- with no other place the earliest stays
unchanged : (f : Option Place) → IsEarlierOf f None f
unchanged None = no_first
unchanged (Some p) = no_second

pub loop-place-init : goal.loop-place-init
loop-place-init c = λ m units are rows. loop_start _ _

pub loop-place-preserved : goal.loop-place-preserved
loop-place-preserved c = λ m units are rows.
    let nodes = c.args.scopes.now.tree.now.parameters.items in
    let l = rw c.deref-node-items.ensures.value at c.loop-place-test.true in
    let i = rw c.deref-node-items.ensures.value at c.node-item.is in
    let s = item_stands nodes c.loop-place.place c.node-item.result l i in
    let a = along_back (parameters m units) nodes are.is_tree.parameters_are c.loop-place.place c.node-item.result s in
    let p = c.node-item.result in
    let one = one_here (parameters m units) c.loop-place.place a.0 a.1 in
    let so_far = c.loop-place.invariant m units are rows in
    elim c.match-node.branch [
      | in-Some w ↦
          let has = domain_valued m units a.0 p a.2 w.in-Some.domain w.in-Some.is in
          let v = known_value (IsParameterValue m) (parameters m units) c.args.values.now rows c.loop-place.place a.0
          w.value_at.result a.1 w.value_at.ensures in
          let breaks = w.outside-breaking.ensures m units a.0 are (of_parameter one has)
          (parameter_attribute m units a.0 p a.2 has) (v.value has)
          (parameter_domain m units a.0 p a.2 w.in-Some.domain w.in-Some.is) in
          loop_next _ _ _ _ _ _ _ s so_far
          (thing_now m units (parameters m units) c.loop-place.place a.0 w.outside-breaking.result a.1 breaks)
          (subst (IsEarlierOf c.loop-place.found w.outside-breaking.result) (sym w.found-is) w.earliest-found.ensures)
      | in_default w ↦
          loop_next _ _ _ _ _ _ _ s so_far
          (thing_now m units (parameters m units) c.loop-place.place a.0 None a.1
          (no_domain m units a.0 p a.2 w.in_default.is))
          (subst (IsEarlierOf c.loop-place.found None) (sym w.found-is) (unchanged c.loop-place.found))
    ]

pub returns : goal.returns
returns c = λ m units are rows.
    let nodes = c.args.scopes.now.tree.now.parameters.items in
    let l = rw c.deref-node-items.ensures.value at c.loop-place-test.false in
    loop_end _ _ _ _ _ l (thing_to m units (parameters m units) nodes are.is_tree.parameters_are)
    (thing_back m units (parameters m units) nodes are.is_tree.parameters_are)
    (c.loop-place.invariant m units are rows)
