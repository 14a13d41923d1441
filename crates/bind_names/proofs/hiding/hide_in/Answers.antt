use Rattle.std.proofs.Common.{ℕ, List, [], ◌++◌, take, take_all, get_or, sym, subst}
use Rattle.ar_base.specs.Numbers.{BodyId}
use Rattle.ar_base.proofs.Standing.{stands_get}
use Rattle.class_table.specs.Declaring.{MemberForm}
use Rattle.class_table.specs.Members.{owned_at}
use Rattle.class_table.specs.TablesInside.{site_of}
use Rattle.hierarchy.specs.Listing.{events, form_of}
use Rattle.bind_names.specs.Hiding.{HidesIn, Marks}
use Rattle.bind_names.proofs.Marked.{marks_none, marks_join, hides_none, hides_join, hides_split}
use Rattle.bind_names.proofs.Sited.{forms_of_sites, sites_next}
use Rattle.bind_names.proofs.hiding.hide_in.Goals as goal

pub loop-site-init : goal.loop-site-init
loop-site-init c = λ m units u is at. marks_none (events m units) (HidesIn m u []) c.args.marks.now.items
    (λ t h. hides_none m u t h)

pub loop-site-preserved : goal.loop-site-preserved
loop-site-preserved c = λ m units u is at.
    let none : BodyId × ℕ = (record { n = 0; of = record {} }, 0) in
    let i = c.loop-site.site-index in
    let site = get_or c.args.sites.now i none in
    let s = stands_get c.args.sites.now i none c.loop-site-test.true in
    let xs = forms_of_sites m.declared (take i c.args.sites.now) in
    let ys = form_of (owned_at m.declared (site_of site)) in
    subst (λ (fs : List MemberForm). Marks (events m units) (HidesIn m u fs) c.args.marks.now.items
    c.hide_at.new.marks.items) (sym (sites_next m.declared c.args.sites.now i site s))
    (marks_join (events m units) (HidesIn m u xs) (HidesIn m u ys) (HidesIn m u (xs ++ ys)) c.args.marks.now.items
    c.loop-site.marks.items c.hide_at.new.marks.items
    (λ t h. hides_join m u t xs ys h) (λ t h. hides_split m u t xs ys h) (c.loop-site.invariant m units u is at)
    (c.hide_at.ensures m units u is at))

pub returns : goal.returns
returns c = λ m units u is at.
    subst (λ (ss : List (BodyId × ℕ)). Marks (events m units) (HidesIn m u (forms_of_sites m.declared ss))
    c.args.marks.now.items c.loop-site.marks.items)
    (take_all c.loop-site.site-index c.args.sites.now c.loop-site-test.false) (c.loop-site.invariant m units u is at)
