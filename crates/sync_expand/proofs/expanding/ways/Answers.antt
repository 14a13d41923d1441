use Rattle.std.proofs.Common.{◌≡◌, ◌≤◌, ◌<◌, ◌^◌, ℕ, List, length, map, sum, sym, ap, ◌∙◌, subst, arith}
use Rattle.std.proofs.lemmas.Result.{err_from_is_err_and}
use Rattle.ar_base.specs.declared.counts.Count.TheVariants.{Ways as TheWays, WayParts}
use Rattle.gts_core.specs.Bound.{declared_from}
use Rattle.sync_expand.specs.Counts.{AreFew, all_parts}
use Rattle.sync_expand.specs.Counting.{greatest}
use Rattle.sync_expand.specs.Links.{Falls}
use Rattle.sync_expand.proofs.KnownLemmas.{few_of}
use Rattle.sync_expand.proofs.Composing.{have_all, rule_refuses, ways_refuse, parts_refuse, expands, fits_within, fits_one, sum_small, meets_err}
use Rattle.sync_expand.proofs.expanding.ways.Goals as goal

pub count_ways-requires-clause-falls : goal.count_ways-requires-clause-falls
count_ways-requires-clause-falls c = subst (λ (rs : List ℕ). Falls c.args.events.now rs)
    (sym c.deref.ensures.value) c.in_ok-ranks.ensures.falls

pub new-requires : goal.new-requires
new-requires c =
    let all = have_all c.args.events.now _ c.in_ok-ranks.ensures.falls c.requires in
    let n = c.in_ok-counts.ensures (map length all.ways) all.counts in
    let most : greatest (map length all.ways) ≤ 256 = fits_within TheWays greatest (map length all.ways) n.0 n.1 in
    let found = n.2 ∙ fits_one TheWays greatest (map length all.ways) n.0 n.1 in
    subst (λ (ns : List ℕ). sum ns < 2 ^ 32) (sym found) (sum_small c.args.events.now all c.requires most)

pub plan-requires-clause-within : goal.plan-requires-clause-within
plan-requires-clause-within c =
    let all = have_all c.args.events.now _ c.in_ok-ranks.ensures.falls c.requires in
    let n = c.in_ok-counts.ensures (map length all.ways) all.counts in
    let most : greatest (map length all.ways) ≤ 256 = fits_within TheWays greatest (map length all.ways) n.0 n.1 in
    let found = n.2 ∙ fits_one TheWays greatest (map length all.ways) n.0 n.1 in
    subst (λ (ns : List ℕ). AreFew ns (declared_from 0 c.args.events.now))
    (sym (c.in_ok-numbering.ensures.counts ∙ found)) (few_of _ _ all.counts most)

pub returns-in_err-ranks : goal.returns-in_err-ranks
returns-in_err-ranks c =
    let r = err_from_is_err_and c.from_residual.result c.from_residual.ensures.1 in
    meets_err c.args.events.now _ _ _ r.1 r.2 (rule_refuses c.args.events.now _ c.in_err-ranks.ensures.refused)

pub returns-in_err-counts : goal.returns-in_err-counts
returns-in_err-counts c =
    let r = err_from_is_err_and c.from_residual-in_err-counts.result c.from_residual-in_err-counts.ensures.1 in
    let all = have_all c.args.events.now _ c.in_ok-ranks.ensures.falls c.requires in
    meets_err c.args.events.now _ _ _ r.1 r.2
    (ways_refuse c.args.events.now all.keeps all.ways all.are _
    (c.in_err-counts.ensures (map length all.ways) all.counts))

pub returns-in_err-fit_parts : goal.returns-in_err-fit_parts
returns-in_err-fit_parts c =
    let r = err_from_is_err_and c.from_residual-in_err-fit_parts.result c.from_residual-in_err-fit_parts.ensures.1 in
    let all = have_all c.args.events.now _ c.in_ok-ranks.ensures.falls c.requires in
    let n = c.in_ok-counts.ensures (map length all.ways) all.counts in
    let most : greatest (map length all.ways) ≤ 256 = fits_within TheWays greatest (map length all.ways) n.0 n.1 in
    let found = n.2 ∙ fits_one TheWays greatest (map length all.ways) n.0 n.1 in
    let same = c.deref-2.ensures.value ∙ found in
    let f = rw same at c.in_err-fit_parts.ensures in
    meets_err c.args.events.now _ _ _ r.1 r.2
    (parts_refuse c.args.events.now all.keeps all.ways all.are most all.parts _ (f (few_of _ _ all.counts most)))

pub returns : goal.returns
returns c =
    let all = have_all c.args.events.now _ c.in_ok-ranks.ensures.falls c.requires in
    let n = c.in_ok-counts.ensures (map length all.ways) all.counts in
    let most : greatest (map length all.ways) ≤ 256 = fits_within TheWays greatest (map length all.ways) n.0 n.1 in
    let found = n.2 ∙ fits_one TheWays greatest (map length all.ways) n.0 n.1 in
    let same = c.deref-2.ensures.value ∙ found in
    let f = (rw same at c.in_ok-fit_parts.ensures) (few_of _ _ all.counts most) in
    let parts : all_parts (map length all.ways) (declared_from 0 c.args.events.now) ≤ 1000000 =
    fits_within WayParts (λ (ns : List ℕ). all_parts ns (declared_from 0 c.args.events.now)) (map length all.ways) f.0
    f.1 in
    let counted = c.in_ok-numbering.ensures.counts ∙ found in (
      all.ways,
      expands c.args.events.now all.keeps all.ways all.are most (let e = all.parts in omega (arith, e, parts)),
      record { is = rw counted at c.in_ok-plan.ensures },
    )
