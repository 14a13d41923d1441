use Rattle.std.proofs.Common.{◌≡◌, ◌<◌, ◌≤◌, ℕ, List, length, sym, ap, subst, arith}
use Rattle.std.specs.List.{flat_map}
use Rattle.ar_base.specs.Lists.{Stands, IsOneOf}
use Rattle.ar_base.proofs.Standing.{stands_some, along_length}
use Rattle.class_table.specs.Declaring.{MemberForm}
use Rattle.class_table.specs.Members.{Site, owned_at}
use Rattle.hierarchy.specs.Listing.{form_of, forms_at}
use Rattle.bind_names.specs.Gathering.{AddsMembers}
use Rattle.bind_names.proofs.Sited.{forms_of_sites}
use Rattle.bind_names.proofs.Gathered.{filled_none, filled_more, filled_all}
use Rattle.bind_names.proofs.gathering.add_ways.Goals as goal

pub loop-place-init : goal.loop-place-init
loop-place-init c = λ m units st a. filled_none m units c.args.scopes.now.tree.now st.are.is_tree
    c.args.events.now.items a

pub loop-place-preserved : goal.loop-place-preserved
loop-place-preserved c = λ m units st a.
    let i = c.loop-place.place in
    let is = st.are.is_tree in
    let n : c.len-place-end.result ≡ length c.args.scopes.now.tree.now.units.items =
    omega (arith, c.len-place-end.ensures, c.args.scopes.now.tree.now.units.ok.0) in
    let k = along_length units c.args.scopes.now.tree.now.units.items is.units_are in
    let l : i < length units = omega (arith, c.loop-place-test.true, n, k) in
    let w = stands_some units i l in
    let at = subst (λ (z : ℕ). Stands units z w.0) (sym c.new-unit.ensures) w.1 in
    let e : forms_of_sites m.declared c.sites_of-sites.result.now ≡ forms_at m w.0 =
    ap (flat_map (λ (s : Site). form_of (owned_at m.declared s))) (c.sites_of-sites.ensures m units w.0 is at) in
    let added = subst (λ (fs : List MemberForm). AddsMembers m units c.args.scopes.now.tree.now w.0 fs
    c.loop-place.events.items c.add_all.new.events.items) e
    (c.in_ok-add_all.ensures m units w.0 st at (λ f o. subst (λ (fs : List MemberForm). IsOneOf fs f) e o)) in
    filled_more m units c.args.scopes.now.tree.now is i w.0 c.loop-place.events.items c.add_all.new.events.items w.1
    (c.loop-place.invariant m units st a) added

pub returns : goal.returns
returns c = λ m units st a.
    let is = st.are.is_tree in
    let n : c.len-place-end.result ≡ length c.args.scopes.now.tree.now.units.items =
    omega (arith, c.len-place-end.ensures, c.args.scopes.now.tree.now.units.ok.0) in
    let k = along_length units c.args.scopes.now.tree.now.units.items is.units_are in
    let l : length units ≤ c.loop-place.place = omega (arith, c.loop-place-test.false, n, k) in
    filled_all m units c.args.scopes.now.tree.now is c.loop-place.place c.loop-place.events.items l
    (c.loop-place.invariant m units st a)
