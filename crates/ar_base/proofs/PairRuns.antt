-- Where the pairs of a first stand.
use Rattle.std.proofs.Common.{◌≡◌, ℕ, zero, suc, ◌+◌, ◌-◌, ◌<◌, ◌≤◌, inl, inr, true, false, List, [], ◌∷◌, ◌++◌, length, get_or, take, drop, refl, sym, ap, ◌∙◌, subst, arith, length-drop, length-append, ltb}
use Rattle.std.proofs.lemmas.Bool.{ltb-true, ltb-false}
use Rattle.std.proofs.lemmas.List.{get_or-drop, get_or-take, length-take-le}
use Rattle.std.proofs.lemmas.Option.{get_or_from_slice_get}
use Rattle.std.specs.List.Sorted.{IsPartitionPoint}
use Rattle.ar_base.specs.Lists.{Stands, IsOneOf}
use Rattle.ar_base.proofs.Standing.{stands_within, stands_some, stands_get, stands_split, stands_none, one_contains, contains_one}
use Rattle.ar_base.proofs.Comparing.{side}
use Rattle.ar_base.specs.Starts.{IsPairStart}

abbrev Pair : Type 0
Pair = ℕ × ℕ

-- what stands between the starts of a first and of the one after it
module _ (pairs : List Pair) (x from to : ℕ) (low : IsPairStart pairs x from) (high : IsPairStart pairs (x + 1) to) where
  pub from_to : from ≤ to
  from_to = elim (side from to) [
    | inl h ↦ h
    | inr h ↦ (
        let item = stands_some pairs to (let w = low.within in omega (arith, w, h)) in
        let a = (low.before to item.0 item.1).0 h in
        let b = (high.before to item.0 item.1).1 (omega (arith, a)) in absurd (omega (arith, b)))
  ]

  run_long : length (take (to - from) (drop from pairs)) ≡ to - from
  run_long = length-take-le (to - from) (drop from pairs) (let l = length-drop from pairs in let w = high.within in omega (arith, l, w))

  run_item : (j : ℕ) (d : Pair) → j < to - from
      → get_or (take (to - from) (drop from pairs)) j d ≡ get_or pairs (from + j) d
  run_item j d h = get_or-take (to - from) (drop from pairs) j d h ∙ get_or-drop from pairs j d

  pub run_short : length (take (to - from) (drop from pairs)) ≤ length pairs
  run_short = let w = high.within in omega (arith, run_long, w)

  -- a pair of the run, at its place
  record IsInRun (r : Pair) : Type 0 where
    at : ℕ
    above : from ≤ at
    below : at < to
    stands : Stands pairs at r

  in_run : (r : Pair) → IsOneOf (take (to - from) (drop from pairs)) r → IsInRun r
  in_run r o =
      let c = contains_one (take (to - from) (drop from pairs)) r o in
      let h : c.0 < to - from = (let k = c.1 in omega (arith, k, run_long)) in
      let e : get_or pairs (from + c.0) r ≡ r = sym (run_item c.0 r h) ∙ c.2 in
      let w = high.within in
      record {
        at = from + c.0;
        above = omega arith;
        below = omega (arith, h);
        stands = subst (λ (z : Pair). Stands pairs (from + c.0) z) e
            (stands_get pairs (from + c.0) r (omega (arith, h, w)));
      }

  pub run_among : (r : Pair) → IsOneOf (take (to - from) (drop from pairs)) r → IsOneOf pairs r
  run_among r o = let i = in_run r o in record { place = i.at; stands = i.stands }

  pub run_exact : (r : Pair) → IsOneOf (take (to - from) (drop from pairs)) r → r.0 ≡ x
  run_exact r o =
      let i = in_run r o in
      let up = (high.before i.at r i.stands).0 i.below in
      elim (side x r.0) [
        | inl h ↦ omega (arith, h, up)
        | inr h ↦ (let b = (low.before i.at r i.stands).1 h in let a = i.above in absurd (omega (arith, a, b)))
      ]

  pub run_all : (r : Pair) → IsOneOf pairs r → r.0 ≡ x → IsOneOf (take (to - from) (drop from pairs)) r
  run_all r o e = one_contains (take (to - from) (drop from pairs)) r (
    o.place - from,
    omega (arith, above, below, run_long),
    run_item (o.place - from) r (omega (arith, above, below))
        ∙ ap (λ (z : ℕ). get_or pairs z r) back ∙ at,
  )
    where
      at : get_or pairs o.place r ≡ r
      at = get_or_from_slice_get pairs o.place r r o.stands

      above : from ≤ o.place
      above = elim (side from o.place) [ inl h ↦ h | inr h ↦ (let c = (low.before o.place r o.stands).0 h in absurd (omega (arith, c, e))) ]

      below : o.place < to
      below = (high.before o.place r o.stands).1 (omega (arith, e))

      back : from + (o.place - from) ≡ o.place
      back = omega (arith, above)

-- where the pairs of lesser firsts end
pub is_start : (pairs : List Pair) (x i : ℕ)
    → IsPartitionPoint (λ (r : Pair). ltb r.0 x ≡ true) (λ (r : Pair). ltb r.0 x ≡ false) pairs i → i ≤ length pairs
    → IsPairStart pairs x i
is_start pairs x i point bound = record { within = bound; before = λ k r s. (on k r s, back k r s) }
  where
    at : (k : ℕ) (r : Pair) → Stands pairs k r → get_or pairs k r ≡ r
    at k r s = get_or_from_slice_get pairs k r r s

    on : (k : ℕ) (r : Pair) → Stands pairs k r → k < i → r.0 < x
    on k r s h =
        let e = ap (λ (z : Pair). z.0) (at k r s) in
        let a = ltb-true _ _ (point.0 k r (omega arith) h) in omega (arith, a, e)

    back : (k : ℕ) (r : Pair) → Stands pairs k r → r.0 < x → k < i
    back k r s h = elim (side i k) [
      | inr l ↦ l
      | inl l ↦ (
          let e = ap (λ (z : Pair). z.0) (at k r s) in
          let a = ltb-false _ _ (point.1 k r l (stands_within pairs k r s)) in absurd (omega (arith, a, e, h)))
    ]

-- the starts of the first so many firsts
pub record AreStarts (pairs : List Pair) (count : ℕ) (starts : List ℕ) : Type 0 where
  pub long : length starts ≡ count
  pub each : (x start : ℕ) → Stands starts x start → IsPairStart pairs x start

pub starts_start : (pairs : List Pair) → AreStarts pairs 0 []
starts_start pairs = record { long = refl; each = λ x start s. absurd (stands_none x start s) }

pub starts_more : (pairs : List Pair) (count start : ℕ) (old new : List ℕ) → new ≡ old ++ start ∷ []
    → IsPairStart pairs count start → AreStarts pairs count old → AreStarts pairs (count + 1) new
starts_more pairs count start old new e is before =
    subst (λ (z : List ℕ). AreStarts pairs (count + 1) z) (sym e) (record {
      long = (let l = length-append old (start ∷ []) in omega (arith, l, before.long));
      each = λ x s st. elim (stands_split old (start ∷ []) x s st)
          [ inl h ↦ before.each x s h | inr h ↦ here x s h.0 h.1 h.2 ];
    })
  where
    here : (x s k : ℕ) → x ≡ length old + k → Stands (start ∷ []) k s → IsPairStart pairs x s
    here x s zero p q =
        let a : start ≡ s = cc in
        let b : count ≡ x = omega (arith, p, before.long) in
        subst (λ (z : ℕ). IsPairStart pairs z s) b (subst (λ (z : ℕ). IsPairStart pairs count z) a is)
    here x s (suc k) p q = absurd (stands_none k s q)
