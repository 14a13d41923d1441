use Rattle.std.proofs.Common.{◌++◌, ◌∙◌, ap, get_or, ℕ, ◌<◌, List, map, length, sym, subst, arith}
use Rattle.std.proofs.lemmas.List.{take_all}
use Rattle.ar_base.specs.Numbers.{BodyId, NameId}
use Rattle.ar_base.specs.declared.places.Place.{Place}
use Rattle.ar_base.proofs.Standing.{stands_get}
use Rattle.class_table.specs.Members.{Site}
use Rattle.class_table.specs.Names.{name_and_place}
use Rattle.class_table.specs.Retested.{AddsGiven, names_of_site}
use Rattle.class_table.specs.TablesInside.{site_of}
use Rattle.class_table.proofs.Taken.{map_next}
use Rattle.class_table.proofs.GivenNames.{gives_none, gives_more}
use Rattle.class_table.proofs.given.Given.add_sites.Goals as goal

pub loop-site-init : goal.loop-site-init
loop-site-init c = λ d known. gives_none d _

pub loop-site-preserved : goal.loop-site-preserved
loop-site-preserved c = λ d known.
    let l : c.loop-site.site-index < length c.args.sites.now = omega arith in
    let none : BodyId × ℕ = (record { n = 0; of = record {} }, 0) in
    let st = stands_get c.args.sites.now c.loop-site.site-index none l in
    let e = map_next site_of c.args.sites.now c.loop-site.site-index _ st in
    subst (λ (ss : List Site). AddsGiven d ss c.args.self.now c.add_all.new.self) (sym e)
    (gives_more d _ _ _ _ _ (c.loop-site.invariant d known) (c.in_ok-add_all.ensures d
    (sym (ap (map name_and_place) c.deref.ensures.value ∙ (c.in_ok-meet_site.ensures d known
    ∙ ap (λ (xs : List (NameId × Place)). map name_and_place xs
    ++ names_of_site d (site_of (get_or c.args.sites.now c.loop-site.site-index none))) c.new-names.ensures.items)))))

pub returns : goal.returns
returns c = λ d known.
    subst (λ (xs : List (BodyId × ℕ)). AddsGiven d (map site_of xs) c.args.self.now c.loop-site.self)
    (take_all c.loop-site.site-index c.args.sites.now (omega arith)) (c.loop-site.invariant d known)
