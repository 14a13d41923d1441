use Rattle.std.proofs.Common.{ℕ, List, [], map, take, take_all, get_or, refl, subst}
use Rattle.ar_base.specs.Numbers.{BodyId}
use Rattle.ar_base.proofs.Standing.{stands_get, stands_map}
use Rattle.class_table.specs.Members.{Site, owned_at}
use Rattle.class_table.specs.TablesInside.{site_of}
use Rattle.hierarchy.specs.Listing.{form_of}
use Rattle.unit_rules.proofs.Sited.{one_flat}
use Rattle.bind_names.specs.Gathering.{AddsMembers}
use Rattle.bind_names.proofs.Gathered.{members_idle, members_join}
use Rattle.bind_names.proofs.Sited.{forms_of_sites, sites_next}
use Rattle.bind_names.proofs.gathering.add_all.Goals as goal

pub loop-site-init : goal.loop-site-init
loop-site-init c = λ m units u st at mem. members_idle m units c.args.scopes.now.tree.now u [] c.args.events.now.items
    (λ n t s q. refl)

pub loop-site-preserved : goal.loop-site-preserved
loop-site-preserved c = λ m units u st at mem.
    let none : BodyId × ℕ = (record { n = 0; of = record {} }, 0) in
    let i = c.loop-site.site-index in
    let site = get_or c.args.sites.now i none in
    let s = stands_get c.args.sites.now i none c.loop-site-test.true in
    let forms = λ (t : Site). form_of (owned_at m.declared t) in
    let sites = map site_of c.args.sites.now in
    members_join m units c.args.scopes.now.tree.now u (forms_of_sites m.declared (take i c.args.sites.now))
    (form_of (owned_at m.declared (site_of site))) _
    c.args.events.now.items c.loop-site.events.items c.add_at.new.events.items
    (sites_next m.declared c.args.sites.now i site s) (c.loop-site.invariant m units u st at mem)
    (c.in_ok-add_at.ensures m units u st
    at (λ f o. mem f (one_flat forms sites i (site_of site) f (stands_map site_of c.args.sites.now i site s) o)))

pub returns : goal.returns
returns c = λ m units u st at mem.
    subst (λ (ss : List (BodyId × ℕ)). AddsMembers m units c.args.scopes.now.tree.now u (forms_of_sites m.declared ss)
    c.args.events.now.items c.loop-site.events.items)
    (take_all c.loop-site.site-index c.args.sites.now c.loop-site-test.false)
    (c.loop-site.invariant m units u st at mem)
