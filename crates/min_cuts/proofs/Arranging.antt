-- Sorting a set's places puts its events in order.
use Rattle.std.proofs.Common.{◌≡◌, ⊎_elim, ℕ, zero, suc, ◌+◌, ◌<◌, ◌≤◌, Bool, true, false, cond, eqb, List, [], ◌∷◌, map, length, get_or, filter, refl, sym, ap, ◌∙◌, subst, arith, true≢false, eqb-true, eq-eqb, nat_cmp}
use Rattle.std.specs.List.{AllByRecursion, IsDistinct}
use Rattle.std.specs.List.Sorted.{IsPermutation, IsSorted}
use Rattle.std.proofs.lemmas.List.Sorted.{IsPermutation-sym, Contains-permutation, IsNonDecreasingBy-from_sort}
use Rattle.std.proofs.lemmas.Map.Keys.{IsDistinct-IsPermutation, IsDistinct-from_apart, apart_from_distinct}
use Rattle.std.proofs.lemmas.Option.{get_or_from_slice_get}
use Rattle.ar_base.specs.Lists.{Stands, IsOneOf}
use Rattle.ar_base.specs.Sets.{Ascends}
use Rattle.ar_base.proofs.Standing.{stands_get, stands_within, stands_map, stands_one, stands_map, stands_map_back, one_here, one_first, one_rest, one_cases, one_contains, contains_one}
use Rattle.zdd_nodes.specs.Families.{holds}
use Rattle.zdd_nodes.proofs.Ascending.{IsAscending, ascends_from}
use Rattle.zdd_nodes.proofs.Members.{holds_law}
use Rattle.min_cuts.specs.Kept.{events_in_order, AreEventPlaces, IsInTheOrder}
use Rattle.ar_firing.proofs.OneListing.{ascending_same}

module _ (set : List ℕ) where
  -- the places, counted from i, of the events that are in the set
  held : ℕ → List ℕ → List ℕ
  held i [] = []
  held i (e ∷ es) = cond (holds e set) (i ∷ held (suc i) es) (held (suc i) es)

  all_cond : (P : ℕ → Type 0) (b : Bool) (x : ℕ) (xs : List ℕ) → P x → AllByRecursion P xs
      → AllByRecursion P (cond b (x ∷ xs) xs)
  all_cond P true x xs p h = (p, h)
  all_cond P false x xs p h = h

  ascending_cond : (b : Bool) (x : ℕ) (xs : List ℕ) → AllByRecursion (λ y. x < y) xs → IsAscending xs
      → IsAscending (cond b (x ∷ xs) xs)
  ascending_cond true x xs p h = (p, h)
  ascending_cond false x xs p h = h

  held_above : (i j : ℕ) (es : List ℕ) → i < j → AllByRecursion (λ y. i < y) (held j es)
  unfolding held
  held_above i j [] l = tt
  held_above i j (e ∷ es) l = all_cond (λ y. i < y) (holds e set) j (held (suc j) es) l
      (held_above i (suc j) es (omega (arith, l)))

  held_ascends : (i : ℕ) (es : List ℕ) → IsAscending (held i es)
  unfolding held
  held_ascends i [] = tt
  held_ascends i (e ∷ es) = ascending_cond (holds e set) i (held (suc i) es) (held_above i (suc i) es (omega arith))
      (held_ascends (suc i) es)

  -- a place is held where the event there is in the set
  record IsHeld (i : ℕ) (es : List ℕ) (p : ℕ) : Type 0 where
    k : ℕ
    e : ℕ
    place : p ≡ i + k
    stands : Stands es k e
    holds_it : holds e set ≡ true

  held_is : (i : ℕ) (es : List ℕ) (p : ℕ) → IsOneOf (held i es) p → IsHeld i es p
  unfolding held
  held_is i [] p o = absurd (let s = o.stands in cc)
  held_is i (e ∷ es) p o = by (holds e set) refl (λ q. held_is (suc i) es p q) o
    where
      later : IsHeld (suc i) es p → IsHeld i (e ∷ es) p
      later h = record {
        k = suc h.k;
        e = h.e;
        place = omega (arith, h.place);
        stands = h.stands;
        holds_it =
            h.holds_it;
      }

      by : (b : Bool) → holds e set ≡ b → (IsOneOf (held (suc i) es) p → IsHeld (suc i) es p)
          → IsOneOf (cond b (i ∷ held (suc i) es) (held (suc i) es)) p → IsHeld i (e ∷ es) p
      by true h ih o = ⊎_elim
          (λ (q : i ≡ p). record { k = zero; e = e; place = omega (arith, q); stands = refl; holds_it = h })
          (λ (q : IsOneOf (held (suc i) es) p). later (ih q)) (one_cases i (held (suc i) es) p o)
      by false h ih o = later (ih o)

  one_cond : (b : Bool) (x : ℕ) (xs : List ℕ) (p : ℕ) → IsOneOf xs p → IsOneOf (cond b (x ∷ xs) xs) p
  one_cond true x xs p o = one_rest x xs p o
  one_cond false x xs p o = o

  is_held : (i : ℕ) (es : List ℕ) (k e : ℕ) → Stands es k e → holds e set ≡ true → IsOneOf (held i es) (i + k)
  unfolding held
  is_held i [] k e s h = cc
  is_held i (x ∷ es) zero e s h =
      let y : x ≡ e = cc in
      let here : i + zero ≡ i = omega arith in
      subst (λ b. IsOneOf (cond b (i ∷ held (suc i) es) (held (suc i) es)) (i + zero))
      (sym (ap (λ z. holds z set) y ∙ h))
      (subst (λ z. IsOneOf (i ∷ held (suc i) es) z) (sym here) (one_first i (held (suc i) es)))
  is_held i (x ∷ es) (suc k) e s h =
      let there : suc i + k ≡ i + suc k = omega arith in
      one_cond (holds x set) i (held (suc i) es) (i + suc k)
      (subst (λ z. IsOneOf (held (suc i) es) z) there (is_held (suc i) es k e s h))

  -- the events at the places that are held
  at_held : (at : ℕ → ℕ) (i : ℕ) (es : List ℕ) → ((k e : ℕ) → Stands es k e → at (i + k) ≡ e)
      → map at (held i es) ≡ filter (λ e. holds e set) es
  unfolding held
  at_held at i [] h = refl
  at_held at i (e ∷ es) h =
      by (at_held at (suc i) es (λ k x s. let same : suc i + k ≡ i + suc k = omega arith in ap at same
      ∙ h (suc k) x s)) (holds e set)
    where
      first : at i ≡ e
      first = let same : i ≡ i + zero = omega arith in ap at same ∙ h zero e refl

      by : map at (held (suc i) es) ≡ filter (λ e. holds e set) es → (b : Bool)
          → map at (cond b (i ∷ held (suc i) es) (held (suc i) es))
          ≡ cond b (e ∷ filter (λ e. holds e set) es) (filter (λ e. holds e set) es)
      by rest true = ap (λ z. z ∷ map at (held (suc i) es)) first ∙ ap (λ z. e ∷ z) rest
      by rest false = rest

module _ (order places set : List ℕ) (known : IsInTheOrder order set) (are : AreEventPlaces order places) where
  abbrev place_of : ℕ → ℕ
  place_of e = get_or places e 0

  -- an event of the set stands at its place
  at_place : (e : ℕ) → IsOneOf set e → Stands order (place_of e) e
  at_place e o =
      let p = known.listed e o in
      let q : get_or places e 0 ≡ p.place = get_or_from_slice_get places e p.place 0 (are.each p.place e p.stands) in
      subst (λ z. Stands order z e) (sym q) p.stands

  spot_at : (k e : ℕ) → Stands order k e → place_of e ≡ k
  spot_at k e s = get_or_from_slice_get places e k 0 (are.each k e s)

  pub inside : (e : ℕ) → IsOneOf set e → e < length places
  inside e o = let p = known.listed e o in stands_within places e p.place (are.each p.place e p.stands)

  -- different events have different places
  spots_differ : IsDistinct eqb (map place_of set)
  spots_differ = IsDistinct-from_apart eqb (map place_of set) (λ i j d l h. differ i j d l h)
    where
      not_true : (b : Bool) → (b ≡ true → ⊥) → b ≡ false
      not_true true h = absurd (h refl)
      not_true false h = refl

      differ : (i j d : ℕ) → i < j → j < length (map place_of set)
          → eqb (get_or (map place_of set) i d) (get_or (map place_of set) j d) ≡ false
      differ i j d l h = not_true (eqb (get_or (map place_of set) i d) (get_or (map place_of set) j d)) (λ e.
          let a = stands_map_back place_of set i (get_or (map place_of set) i d)
          (stands_get (map place_of set) i d (omega (arith, l, h))) in
          let b = stands_map_back place_of set j (get_or (map place_of set) j d)
          (stands_get (map place_of set) j d h) in
          let same : place_of a.0 ≡ place_of b.0 = a.2
          ∙ eqb-true (get_or (map place_of set) i d) (get_or (map place_of set) j d) e ∙ sym b.2 in
          let one : a.0 ≡ b.0 = stands_one order (place_of a.0) a.0 b.0 (at_place a.0 (one_here set i a.0 a.1))
          (subst (λ z. Stands order z b.0) (sym same) (at_place b.0 (one_here set j b.0 b.1))) in
          let less : a.0 < b.0 = known.ascends.ascends i j a.0 b.0 l a.1 b.1 in
          omega (arith, one, less))

  eqb_flips : (x y : ℕ) → eqb x y ≡ eqb y x
  eqb_flips x y = alike (eqb x y) (eqb y x) (λ h. eq-eqb y x (sym (eqb-true x y h)))
      (λ h. eq-eqb x y (sym (eqb-true y x h)))
    where
      alike : (a b : Bool) → (a ≡ true → b ≡ true) → (b ≡ true → a ≡ true) → a ≡ b
      alike true b f g = sym (f refl)
      alike false true f g = g refl
      alike false false f g = refl

  module _ (spots : List ℕ) (shuffled : IsPermutation (map place_of set) spots) (sorted : IsSorted nat_cmp spots) where
    spots_ascend : Ascends spots
    spots_ascend = record {
      ascends = λ j k a b l h i.
          let one : get_or spots j 0 ≡ a = get_or_from_slice_get spots j a 0 h in
          let two : get_or spots k 0 ≡ b = get_or_from_slice_get spots k b 0 i in
          let short : k < length spots = stands_within spots k b i in
          let up : get_or spots j 0 ≤ get_or spots k 0 =
          IsNonDecreasingBy-from_sort (λ (x : ℕ). x) spots sorted j k 0 (omega (arith, l)) short in
          let apart : eqb (get_or spots j 0) (get_or spots k 0) ≡ false =
          apart_from_distinct eqb spots j k 0 (IsDistinct-IsPermutation eqb eqb_flips
          (map place_of set) spots shuffled spots_differ) l short in
          let not : (get_or spots j 0 ≡ get_or spots k 0 → ⊥) =
          λ e. true≢false (sym (eq-eqb (get_or spots j 0) (get_or spots k 0) e) ∙ apart) in
          less a b (omega (arith, one, two, up)) (λ e. not (one ∙ e ∙ sym two));
    }
      where
        less : (a b : ℕ) → a ≤ b → (a ≡ b → ⊥) → a < b
        less a b h n = omega arith

    spot_is : (p : ℕ) → IsOneOf spots p → (e : ℕ) × IsOneOf set e × (place_of e ≡ p)
    spot_is p o =
        let c : IsOneOf (map place_of set) p = one_contains (map place_of set) p
        (Contains-permutation spots (map place_of set) p (IsPermutation-sym (map place_of set) spots shuffled)
        (contains_one spots p o)) in
        let b = stands_map_back place_of set c.place p c.stands in
        (b.0, one_here set c.place b.0 b.1, b.2)

    is_spot : (e : ℕ) → IsOneOf set e → IsOneOf spots (place_of e)
    is_spot e o = one_contains spots (place_of e) (Contains-permutation (map place_of set) spots (place_of e) shuffled
        (contains_one (map place_of set) (place_of e)
        (record { place = o.place; stands = stands_map place_of set o.place e o.stands })))

    spots_held : spots ≡ held set 0 order
    spots_held = ascending_same spots (held set 0 order) spots_ascend
        (ascends_from (held set 0 order) (held_ascends set 0 order))
        (record {
          each = λ p o. let s = spot_is p o in subst (λ z. IsOneOf (held set 0 order) z) (ahead s.0 p s.2)
              (is_held set 0 order (place_of s.0) s.0 (at_place s.0 s.1) ((holds_law s.0 set).1 s.1));
        })
        (record {
          each = λ p o. let h = held_is set 0 order p o in
              let q : IsOneOf set h.e = (holds_law h.e set).0 h.holds_it in
              let r : place_of h.e ≡ h.k = spot_at h.k h.e h.stands in
              subst (λ z. IsOneOf spots z) (r ∙ back h.k p h.place) (is_spot h.e q);
        })
      where
        ahead : (e p : ℕ) → place_of e ≡ p → 0 + place_of e ≡ p
        ahead e p h = omega arith

        back : (k p : ℕ) → p ≡ 0 + k → k ≡ p
        back k p h = omega arith

    -- the spots' places are in the order
    pub spots_inside : (k p : ℕ) → Stands spots k p → p < length order
    spots_inside k p s =
        let i = spot_is p (one_here spots k p s) in
        stands_within order p i.0 (subst (λ z. Stands order z i.0) i.2 (at_place i.0 i.1))

    -- the events at the spots are those of the set, as they stand in the order
    pub arranged : map (λ p. get_or order p 0) spots ≡ events_in_order order set
    arranged = ap (map (λ p. get_or order p 0)) spots_held
        ∙ at_held set (λ p. get_or order p 0) 0 order (λ k e s. ahead k e s)
      where
        ahead : (k e : ℕ) → Stands order k e → get_or order (0 + k) 0 ≡ e
        ahead k e s = let z : 0 + k ≡ k = omega arith in ap (λ j. get_or order j 0) z
            ∙ get_or_from_slice_get order k e 0 s
