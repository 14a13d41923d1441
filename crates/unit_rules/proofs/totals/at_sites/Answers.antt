use Rattle.std.proofs.Common.{◌<◌, ℕ, List, map, length, sym, subst, arith}
use Rattle.std.proofs.lemmas.List.{take_all}
use Rattle.ar_base.specs.Numbers.{BodyId}
use Rattle.ar_base.proofs.Standing.{stands_get}
use Rattle.class_table.specs.Members.{Site}
use Rattle.class_table.specs.TablesInside.{site_of}
use Rattle.class_table.proofs.Taken.{map_next}
use Rattle.unit_rules.specs.Counting.{AreAt}
use Rattle.unit_rules.proofs.Joined.{at_join}
use Rattle.unit_rules.proofs.totals.at_sites.Goals as goal

pub loop-site-preserved : goal.loop-site-preserved
loop-site-preserved c = λ d bodies shown own.
    let l : c.loop-site.site-index < length c.args.sites.now = omega arith in
    let none : BodyId × ℕ = (record { n = 0; of = record {} }, 0) in
    let s = stands_get c.args.sites.now c.loop-site.site-index none l in
    let e = map_next site_of c.args.sites.now c.loop-site.site-index _ s in
    subst (λ (xs : List Site). AreAt d xs c.with-counts.result) (sym e)
    (at_join d _ _ _ (c.with-counts.ensures _ _ _ _ (c.loop-site.invariant d bodies shown own)
    (c.at_site.ensures d bodies shown own)))

pub returns : goal.returns
returns c = λ d bodies shown own.
    let e = take_all c.loop-site.site-index c.args.sites.now (omega arith) in
    subst (λ (xs : List (BodyId × ℕ)). AreAt d (map site_of xs) c.loop-site.counts) e
    (c.loop-site.invariant d bodies shown own)
