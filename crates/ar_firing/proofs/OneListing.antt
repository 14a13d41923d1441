-- The sets with a property are listed in one way.
use Rattle.std.proofs.Common.{◌≡◌, ◌⊎◌, inl, inr, ⊎_elim, ℕ, zero, suc, List, [], ◌∷◌, refl, sym, subst, arith}
use Rattle.std.proofs.lemmas.Bool.{cases_order}
use Rattle.ar_base.specs.Lists.{Stands, IsOneOf}
use Rattle.ar_base.specs.Sets.{Within, Ascends, IsBefore}
use Rattle.ar_base.proofs.Sets.{same_ascending}
use Rattle.ar_firing.specs.Listed.{AreListed}

-- of two sets at most one is before the other
pub not_both : {s t : List ℕ} → IsBefore s t → IsBefore t s → ⊥
not_both {s = s} {t = t} a b = ⊎_elim
    (λ i. b.not_in_second (subst (λ z. IsOneOf s z) i a.in_first))
    (λ o. ⊎_elim (λ h. a.not_in_second ((b.same_below a.least h).1 a.in_first))
    (λ h. b.not_in_second ((a.same_below b.least h).1 b.in_first)) o)
    (cases_order a.least b.least)

-- no set is before one with the same members
pub not_itself : {s t : List ℕ} → IsBefore s t → Within s t → ⊥
not_itself a w = a.not_in_second (w.each a.least a.in_first)

pub before_then : {s t u : List ℕ} → IsBefore s t → IsBefore t u → IsBefore s u
before_then {s = s} {t = t} {u = u} a b = ⊎_elim
    (λ i. absurd (a.not_in_second (subst (λ z. IsOneOf t z) (sym i) b.in_first)))
    (λ o. ⊎_elim
    (λ h. record {
      least = a.least;
      in_first = a.in_first;
      not_in_second = λ k. a.not_in_second ((b.same_below a.least h).1 k);
      same_below = λ e l.
          let p =
          a.same_below e l in let q = b.same_below e (omega (arith, l, h)) in (λ k. q.0 (p.0 k), λ k. p.1 (q.1 k));
    })
    (λ h. record {
      least = b.least;
      in_first = (a.same_below b.least h).1 b.in_first;
      not_in_second = b.not_in_second;
      same_below = λ e l.
          let p =
          a.same_below e (omega (arith, l, h)) in let q = b.same_below e l in (λ k. q.0 (p.0 k), λ k. p.1 (q.1 k));
    }) o)
    (cases_order a.least b.least)

-- ascending lists with the same members are one
pub ascending_same : (xs ys : List ℕ) → Ascends xs → Ascends ys → Within xs ys → Within ys xs → xs ≡ ys
ascending_same xs ys a b v w = same_ascending xs ys a b v.each w.each

-- the sets after the first one
after_first : (P : List ℕ → Type 0) (x : List ℕ) (xs : List (List ℕ)) → AreListed P (x ∷ xs)
    → AreListed (λ s. P s × IsBefore x s) xs
after_first P x xs a = record {
  ascend = λ k s t. a.ascend (suc k) s t;
  sound = λ k s t. (a.sound (suc k) s t, a.in_order zero (suc k) x s (omega arith) refl t);
  whole = λ s h. let o = a.whole s h.0 in go s h.1 o.0 o.1.place o.1.stands o.2 o.3;
  in_order = λ j k s t l p q. a.in_order (suc j) (suc k) s t (omega (arith, l)) p q;
}
  where
    go : (s : List ℕ) → IsBefore x s → (other : List ℕ) (k : ℕ) → Stands (x ∷ xs) k other → Within s other
        → Within other s → (other : List ℕ) × IsOneOf xs other × Within s other × Within other s
    go s b other zero t v w = let i : x ≡ other = cc in absurd (not_itself b (subst (λ z. Within z s) (sym i) w))
    go s b other (suc k) t v w = (other, record { place = k; stands = t }, v, w)

-- the first of one list is the first of the other, or comes after it
first_or_later : (P : List ℕ → Type 0) (x : List ℕ) (xs : List (List ℕ)) (y : List ℕ) (ys : List (List ℕ))
    → AreListed P (x ∷ xs) → AreListed P (y ∷ ys) → (x ≡ y) ⊎ IsBefore y x
first_or_later P x xs y ys a b =
    let o = b.whole x (a.sound zero x refl) in
    let e : x ≡ o.0 = ascending_same x o.0 (a.ascend zero x refl) (b.ascend o.1.place o.0 o.1.stands) o.2 o.3 in
    go o.1.place (subst (λ z. Stands (y ∷ ys) o.1.place z) (sym e) o.1.stands)
  where
    go : (k : ℕ) → Stands (y ∷ ys) k x → (x ≡ y) ⊎ IsBefore y x
    go zero s = let i : y ≡ x = cc in inl (sym i)
    go (suc k) s = inr (b.in_order zero (suc k) y x (omega arith) refl s)

pub listed_same : (xs ys : List (List ℕ)) (P : List ℕ → Type 0) → AreListed P xs → AreListed P ys → xs ≡ ys
listed_same [] [] P a b = refl
listed_same [] (y ∷ ys) P a b = let o = a.whole y (b.sound zero y refl) in let h = o.1.stands in cc
listed_same (x ∷ xs) [] P a b = let o = b.whole x (a.sound zero x refl) in let h = o.1.stands in cc
listed_same (x ∷ xs) (y ∷ ys) P a b =
    let e : x ≡ y =
    ⊎_elim (λ i. i) (λ h. ⊎_elim (λ i. sym i) (λ k. absurd (not_both h k)) (first_or_later P y ys x xs b a))
    (first_or_later P x xs y ys a b) in
    let r : xs ≡ ys =
    listed_same xs ys (λ s. P s × IsBefore x s) (after_first P x xs a)
    (subst (λ z. AreListed (λ s. P s × IsBefore z s) ys) (sym e) (after_first P y ys b)) in cc

-- the sets with one property are listed as those with another that says as much
pub listed_as : {P Q : List ℕ → Type 0} {sets : List (List ℕ)} → ((s : List ℕ) → P s → Q s) → ((s : List ℕ) → Q s → P s)
    → AreListed P sets → AreListed Q sets
listed_as on off a = record {
  ascend = a.ascend;
  sound = λ k s t. on s (a.sound k s t);
  whole = λ s q. a.whole s (off s q);
  in_order = a.in_order;
}
