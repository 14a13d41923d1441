use Rattle.std.proofs.Common.{◌-◌, ℕ, length, refl, sym, ap, arith}
use Rattle.std.proofs.lemmas.Option.{get_or_from_slice_get}
use Rattle.ar_base.proofs.Standing.{stands_within}
use Rattle.ar_base.proofs.indexed.count_of.Goals as goal

pub returns-in-Some-clause-above : goal.returns-in-Some-clause-above
returns-in-Some-clause-above c = λ q o.
    let pairs = c.args.pairs.now in
    let w = stands_within pairs o.place q o.stands in
    let last = length pairs - 1 in
    let e = ap (λ (z : ℕ × ℕ). z.0) (get_or_from_slice_get pairs o.place q q o.stands) in
    let i = ap (λ (z : ℕ × ℕ). z.0) (get_or_from_slice_get pairs last c.in-Some.pair.now q
    (sym c.in-Some.ensures.value)) in
    let h = c.requires o.place last q (omega (arith, w)) (omega (arith, w)) in
    omega (arith, h, e, i)

pub returns-in-Some-clause-least : goal.returns-in-Some-clause-least
returns-in-Some-clause-least c = λ h.
    (c.in-Some.pair.now, record { place = length c.args.pairs.now - 1; stands = sym c.in-Some.ensures.value }, refl)
