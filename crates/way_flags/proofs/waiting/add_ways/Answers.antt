use Rattle.std.proofs.Common.{◌≡◌, ◌<◌, ◌+◌, ◌++◌, ◌∷◌, ◌⊎◌, ◌↔◌, inl, inr, [], ℕ, List, length, take, take_all, get_or, sym, subst}
use Rattle.std.proofs.lemmas.List.{take_more}
use Rattle.ar_base.specs.Lists.{Stands, IsOneOf}
use Rattle.ar_base.proofs.Standing.{stands_get, stands_none, stands_one, one_left}
use Rattle.ar_base.proofs.Items.{one_last, last_cases}
use Rattle.way_flags.specs.Renewing.{WaitsAt, IsPlaceWith}
use Rattle.way_flags.proofs.waiting.add_ways.Goals as goal

is_way : (ways : List ℕ) (i : ℕ) → i < length ways → IsOneOf ways (get_or ways i 0)
is_way ways i h = record { place = i; stands = stands_get ways i 0 h }

nothing_more : (places : List ℕ) (P : ℕ → Type 0) (q : ℕ) → (P q) ↔ (P q ⊎ IsPlaceWith places (IsOneOf []) q)
nothing_more places P q = (
  (λ h. inl h),
  (λ h. elim h [ inl k ↦ k | inr r ↦ absurd (stands_none r.has.place r.n r.has.stands) ]),
)

one_more : (places ways : List ℕ) (w place q : ℕ) (First Old New : ℕ → Type 0) → Stands places w place
    → ((q : ℕ) → (Old q ↔ (First q ⊎ IsPlaceWith places (IsOneOf ways) q)))
    → ((q : ℕ) → (New q ↔ (Old q ⊎ (q ≡ place)))) → (New q ↔ (First q ⊎ IsPlaceWith places (IsOneOf (ways ++ w ∷ [])) q))
one_more places ways w place q First Old New st before adds = (there, back)
  where
    there : New q → First q ⊎ IsPlaceWith places (IsOneOf (ways ++ w ∷ [])) q
    there h = elim ((adds q).0 h) [
      | inl o ↦ (elim ((before q).0 o) [
        | inl f ↦ inl f
        | inr r ↦ inr (record { n = r.n; has = one_left ways (w ∷ []) r.n r.has; stands = r.stands })
      ])
      | inr e ↦ inr (record { n = w; has = one_last ways w; stands = subst (λ (z : ℕ). Stands places w z) (sym e) st })
    ]

    back : First q ⊎ IsPlaceWith places (IsOneOf (ways ++ w ∷ [])) q → New q
    back h = elim h [
      | inl f ↦ (adds q).1 (inl ((before q).1 (inl f)))
      | inr r ↦ (elim (last_cases ways w r.n r.has) [
        | inl o ↦ (adds q).1 (inl ((before q).1 (inr (record { n = r.n; has = o; stands = r.stands }))))
        | inr e ↦ (adds q).1 (inr (stands_one places w q place (subst (λ (z : ℕ). Stands places z q) (sym e) r.stands)
            st))
      ])
    ]

pub loop-way-init : goal.loop-way-init
loop-way-init c = λ q. nothing_more c.args.places.now (WaitsAt c.args.waiting.now) q

pub bounds-places-way : goal.bounds-places-way
bounds-places-way c = c.requires (get_or c.args.ways.now c.loop-way.way-index 0)
    (is_way c.args.ways.now c.loop-way.way-index c.loop-way-test.true)

pub loop-way-preserved : goal.loop-way-preserved
loop-way-preserved c =
    let ws = c.args.ways.now in
    let i = c.loop-way.way-index in
    let w = get_or ws i 0 in
    let places = c.args.places.now in
    let more : take (i + 1) ws ≡ take i ws ++ w ∷ [] = take_more ws i 0 c.loop-way-test.true in
    let below : w < length places = c.requires w (is_way ws i c.loop-way-test.true) in
    λ q. subst (λ (z : List ℕ). WaitsAt c.add_place.new.waiting q
    ↔ (WaitsAt c.args.waiting.now q ⊎ IsPlaceWith places (IsOneOf z) q)) (sym more)
    (one_more places (take i ws) w _ q (WaitsAt c.args.waiting.now) (WaitsAt c.loop-way.waiting)
    (WaitsAt c.add_place.new.waiting)
    (stands_get places w 0 below) c.loop-way.invariant c.in_ok-add_place.ensures)

pub returns : goal.returns
returns c = λ q. subst (λ (z : List ℕ). WaitsAt c.loop-way.waiting q
    ↔ (WaitsAt c.args.waiting.now q ⊎ IsPlaceWith c.args.places.now (IsOneOf z) q))
    (take_all c.loop-way.way-index c.args.ways.now c.loop-way-test.false) (c.loop-way.invariant q)
