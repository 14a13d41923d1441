use Rattle.std.proofs.Common.{◌≡◌, ℕ, List, length, rules, sym, subst, arith}
use Rattle.ar_base.specs.Lists.{IsOneOf}
use Rattle.ar_base.proofs.Standing.{stands_within}
use Rattle.flow_reasons.proofs.Gathering.{bring_all, found_as}
use Rattle.flow_reasons.proofs.rounds.first_bringing.Goals as goal

pub bringing-requires-clause-inside : goal.bringing-requires-clause-inside
bringing-requires-clause-inside c = λ n o.
    let whole : c.len.result ≡ length c.args.parts.now.assigns.items = search rules in
    let h = (c.in_ok-all.ensures.each n).0 (subst (λ (z : List ℕ). IsOneOf z n) c.deref.ensures.value o) in omega (arith, h, whole)

pub returns : goal.returns
returns c =
    let p = c.args.parts.now in
    let whole : c.len.result ≡ length p.assigns.items = search rules in
    found_as _ _ c.bringing.result
    (λ v h. bring_all p c.args.values.now c.args.marks.now c.deref.result.now v.items
    (λ n b. subst (λ (z : List ℕ). IsOneOf z n) (sym c.deref.ensures.value)
    ((c.in_ok-all.ensures.each n).1 (let l = stands_within p.assigns.items n b.assign b.stands in omega (arith, l, whole)))) h)
    c.bringing.ensures
