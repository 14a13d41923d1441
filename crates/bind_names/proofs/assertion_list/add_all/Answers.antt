use Rattle.std.proofs.Common.{◌≡◌, ℕ, List, take, take_all, get_or, map, refl, ap, ◌∙◌, subst}
use Rattle.std.specs.List.{flat_map}
use Rattle.ar_base.specs.Lists.{IsOneOf}
use Rattle.ar_base.specs.Numbers.{BodyId}
use Rattle.ar_base.proofs.Standing.{one_here, stands_get, stands_map}
use Rattle.class_table.specs.Members.{Site, owned_at}
use Rattle.class_table.specs.TablesInside.{site_of}
use Rattle.hierarchy.specs.Listing.{all_in, asserted, form_of}
use Rattle.unit_rules.specs.Searched.{forms_of}
use Rattle.bind_names.specs.Adding.{AddsAssertions}
use Rattle.bind_names.proofs.Asserted.{adds_none, adds_join, sites_next}
use Rattle.bind_names.proofs.assertion_list.add_all.Goals as goal

pub loop-site-init : goal.loop-site-init
loop-site-init c = λ m units u st at e. adds_none m units c.args.scopes.now.tree.now _ c.args.acts.now.items refl

pub loop-site-preserved : goal.loop-site-preserved
loop-site-preserved c = λ m units u st at e.
    let none : BodyId × ℕ = (record { n = 0; of = record {} }, 0) in
    let sites = c.args.sites.now in
    let i = c.loop-site.site-index in
    let site = get_or sites i none in
    let s = stands_get sites i none c.loop-site-test.true in
    let one = subst (λ (ss : List Site). IsOneOf ss (site_of site)) e
    (one_here (map site_of sites) i (site_of site) (stands_map site_of sites i site s)) in
    adds_join m units c.args.scopes.now.tree.now
    (all_in u (flat_map asserted (forms_of m.declared (map site_of (take i sites)))))
    (all_in u (flat_map asserted (form_of (owned_at m.declared (site_of site))))) _
    c.args.acts.now.items c.loop-site.acts.items c.add_at.new.acts.items (sites_next m.declared u sites i site s)
    (c.loop-site.invariant m units u st at e) (c.in_ok-add_at.ensures m units u st at one)

pub returns : goal.returns
returns c = λ m units u st at e.
    let sites : map site_of (take c.loop-site.site-index c.args.sites.now) ≡ _ =
    ap (map site_of) (take_all c.loop-site.site-index c.args.sites.now c.loop-site-test.false) ∙ e in
    subst (λ (ss : List Site). AddsAssertions m units c.args.scopes.now.tree.now
    (all_in u (flat_map asserted (forms_of m.declared ss))) c.args.acts.now.items c.loop-site.acts.items) sites
    (c.loop-site.invariant m units u st at e)
