use Rattle.std.proofs.Common.{ℕ, [], unwrap_or, slice_get, sym, ◌∙◌, ap, subst}
use Rattle.ar_base.specs.Lists.{Stands}
use Rattle.ar_base.proofs.Standing.{along_back}
use Rattle.class_table.proofs.Taken.{item_stands}
use Rattle.class_table.proofs.Looping.{loop_start, loop_next, loop_end}
use Rattle.bind_names.proofs.Membered.{body_members, unit_now, unit_to, unit_back}
use Rattle.bind_names.proofs.member_rules.in_units.Goals as goal

pub loop-place-init : goal.loop-place-init
loop-place-init c = λ m units are. loop_start _ _

pub loop-place-preserved : goal.loop-place-preserved
loop-place-preserved c = λ m units are.
    let l = rw c.deref-node-items.ensures.value at c.loop-place-test.true in
    let i = rw c.deref-node-items.ensures.value at c.node-item.is in
    let s = item_stands c.args.scopes.now.tree.now.units.items c.loop-place.place c.node-item.result l i in
    let a = along_back units c.args.scopes.now.tree.now.units.items are.is_tree.units_are c.loop-place.place
    c.node-item.result s in
    let at = subst (λ (n : ℕ). Stands units n a.0) (sym c.new-unit.ensures) a.1 in
    let sites = c.members_of-sites.ensures m are.is_tree.table.table
    ∙ ap (λ (k : ℕ). unwrap_or (slice_get m.members k) []) a.2.body in
    loop_next _ _ _ _ _ _ _ s (c.loop-place.invariant m units are)
    (unit_now m units c.args.rule c.loop-place.place a.0 c.in_sites.result a.1
    (body_members m c.args.rule a.0 _ sites c.in_sites.result (c.in_sites.ensures m units a.0 are at)))
    c.earliest-found.ensures

pub returns : goal.returns
returns c = λ m units are.
    let l = rw c.deref-node-items.ensures.value at c.loop-place-test.false in
    loop_end _ _ _ _ _ l (unit_to m units c.args.rule _)
    (unit_back m units c.args.rule c.args.scopes.now.tree.now are.is_tree) (c.loop-place.invariant m units are)
