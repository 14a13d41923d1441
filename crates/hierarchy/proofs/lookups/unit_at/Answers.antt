use Rattle.std.proofs.Common.{◌≡◌, slice_index_or, ap, rules}
use Rattle.hierarchy.specs.Units.{start_of, numbers}
use Rattle.hierarchy.specs.Finding.{unit_number}
use Rattle.hierarchy.proofs.Looking.{starts_none, starts_some, starts_nowhere, goes_start, goes_next_at, goes_nowhere_at, goes_end_at, unit_none, some_unit, unit_within, node_at, step_to, step_nowhere}
use Rattle.hierarchy.proofs.lookups.unit_at.Goals as goal

pub returns-in_err-at : goal.returns-in_err-at
returns-in_err-at c = λ m units u t s.
    unit_none m units u c.args.first (numbers c.args.names.now) c.from_residual.result c.from_residual.ensures
    (starts_nowhere (start_of c.args.first u)
    (starts_none units (start_of c.args.first u) c.start_at.result c.in_err-at.was
    (c.start_at.ensures m units u t s)))

pub loop-name-init : goal.loop-name-init
loop-name-init c = λ m units u t s.
    let v = starts_some units (start_of c.args.first u) c.start_at.result c.in_ok-at.at c.in_ok-at.was
    (c.start_at.ensures m units u t s) in
    (v.0, v.2, goes_start v.0 v.1)

pub index-requires : goal.index-requires
index-requires c =
    let t = c.requires.tree.is_tree in
    let u = some_unit t c.requires.in_range in
    let v = c.loop-name.invariant c.requires.tree.model c.requires.tree.units u.0 t u.1 in
    let w = unit_within t v.1 in
    search (rules, w)

pub returns-in_err-at-2 : goal.returns-in_err-at-2
returns-in_err-at-2 c = λ m units u t s.
    let v = c.loop-name.invariant m units u t s in
    let q : c.index.result.now ≡ slice_index_or c.args.tree.now.units.items c.loop-name.at.n c.index.result.now =
    search rules in
    let is = node_at t v.1 (unit_within t v.1) c.index.result.now q in
    let none = step_nowhere is _ c.step.result c.step.ensures (ap unit_number c.in_err-at-2.was) in
    unit_none m units u c.args.first (numbers c.args.names.now) c.from_residual-in_err-at-2.result
    c.from_residual-in_err-at-2.ensures
    (goes_nowhere_at c.args.names.now c.loop-name.name-index _ c.loop-name-test.true none v.2)

pub loop-name-preserved : goal.loop-name-preserved
loop-name-preserved c = λ m units u t s.
    let v = c.loop-name.invariant m units u t s in
    let q : c.index.result.now ≡ slice_index_or c.args.tree.now.units.items c.loop-name.at.n c.index.result.now =
    search rules in
    let is = node_at t v.1 (unit_within t v.1) c.index.result.now q in
    let to = step_to is _ c.step.result c.step.ensures c.in_ok-at-2.at.n (ap unit_number c.in_ok-at-2.was) in
    (to.0, to.1, goes_next_at c.args.names.now c.loop-name.name-index _ c.loop-name-test.true to.2 v.2)

pub returns : goal.returns
returns c = λ m units u t s.
    let v = c.loop-name.invariant m units u t s in
    (v.0, v.1, goes_end_at c.args.names.now c.loop-name.name-index (search (rules, c.loop-name-test.false)) v.2)
