use Rattle.std.proofs.Common.{ℕ, get_or, ◌<◌, ◌++◌, List, map, length, ap, sym, ◌∙◌, arith}
use Rattle.std.proofs.lemmas.List.{take_all}
use Rattle.ar_base.specs.Numbers.{BodyId}
use Rattle.ar_base.specs.declared.places.Place.{Place}
use Rattle.ar_base.proofs.Standing.{stands_get}
use Rattle.class_table.specs.Retested.{member_names_at, names_of_site}
use Rattle.class_table.specs.TablesInside.{site_of}
use Rattle.class_table.proofs.Taken.{map_next}
use Rattle.class_table.proofs.MemberNames.{named_next}
use Rattle.class_table.proofs.giving.names_given.Goals as goal

pub loop-site-preserved : goal.loop-site-preserved
loop-site-preserved c = λ d known.
    let l : c.loop-site.site-index < length c.args.sites.now = omega arith in
    let none : BodyId × ℕ = (record { n = 0; of = record {} }, 0) in
    let s = stands_get c.args.sites.now c.loop-site.site-index none l in
    let e = map_next site_of c.args.sites.now c.loop-site.site-index _ s in
    c.in_ok-meet_site.ensures d known
    ∙ (ap (λ (ns : List (ℕ × Place)). ns ++ names_of_site d (site_of (get_or c.args.sites.now c.loop-site.site-index none))) (c.loop-site.invariant d known)
    ∙ sym (ap (member_names_at d) e ∙ named_next d _ _))

pub returns : goal.returns
returns c = λ d known.
    let e = take_all c.loop-site.site-index c.args.sites.now (omega arith) in
    c.loop-site.invariant d known ∙ ap (λ (xs : List (BodyId × ℕ)). member_names_at d (map site_of xs)) e
