-- Least sets, said by what is within them and by what is lesser.
use Rattle.std.proofs.Common.{◌≡◌, ◌<◌, ◌≤◌, ◌⊎◌, inl, inr, ⊎_elim, ℕ, zero, suc, List, [], ◌∷◌, refl, sym, subst, arith}
use Rattle.ar_base.specs.Lists.{Stands, IsOneOf}
use Rattle.ar_firing.specs.Cuts.{IsLeast}
use Rattle.ar_firing.specs.CutsInside.{HasNoLesser}
use Rattle.ar_base.specs.Sets.{Within}
use Rattle.ar_base.proofs.Sets.{member_told, within_self}

pub within_then : {xs ys zs : List ℕ} → Within xs ys → Within ys zs → Within xs zs
within_then h k = record { each = λ e o. k.each e (h.each e o) }

-- whether each number of a list is one of another, or which is not
pub record Left (xs ys : List ℕ) : Type 0 where
  pub event : ℕ
  pub is_one : IsOneOf xs event
  pub is_not : IsOneOf ys event → ⊥

pub decided : (xs ys : List ℕ) → Within xs ys ⊎ Left xs ys
decided [] ys = inl (record { each = λ e o. let h = o.stands in cc })
decided (x ∷ xs) ys = ⊎_elim
    (λ o. ⊎_elim (λ w. inl (record { each = λ e i. both o w e i.place i.stands }))
    (λ l. inr (record {
      event = l.event;
      is_one = record { place = suc l.is_one.place; stands = l.is_one.stands };
      is_not = l.is_not;
    })) (decided xs ys))
    (λ n. inr (record { event = x; is_one = record { place = zero; stands = refl }; is_not = n }))
    (member_told ys x)
  where
    both : IsOneOf ys x → Within xs ys → (e k : ℕ) → Stands (x ∷ xs) k e → IsOneOf ys e
    both o w e zero s = let i : x ≡ e = cc in subst (λ z. IsOneOf ys z) i o
    both o w e (suc k) s = w.each e (record { place = k; stands = s })

module _ (P : List ℕ → Type 0) where
  pub in_words : {set : List ℕ} → IsLeast P set → HasNoLesser P set
  in_words h = record { has = h.has; no_lesser = λ part w n p. n (h.least part w p) }

  pub from_words : {set : List ℕ} → HasNoLesser P set → IsLeast P set
  from_words {set = set} h = record {
    has = h.has;
    least = λ part w p.
        ⊎_elim (λ k. k) (λ l. absurd (h.no_lesser part w (λ k. l.is_not (k.each l.event l.is_one)) p))
        (decided set part);
  }

-- how many places of the first list hold a number of the second
abbrev pub counted : List ℕ → List ℕ → ℕ
counted [] part = 0
counted (x ∷ xs) part = ⊎_elim (λ o. suc (counted xs part)) (λ n. counted xs part) (member_told part x)

no_more_counted : (xs part whole : List ℕ) → Within part whole → counted xs part ≤ counted xs whole
no_more_counted [] part whole w = omega arith
no_more_counted (x ∷ xs) part whole w = go (member_told part x) (member_told whole x) (no_more_counted xs part whole w)
  where
    go : (a : IsOneOf part x ⊎ (IsOneOf part x → ⊥)) (b : IsOneOf whole x ⊎ (IsOneOf whole x → ⊥))
        → counted xs part ≤ counted xs whole
        → ⊎_elim (λ o. suc (counted xs part)) (λ n. counted xs part) a ≤ ⊎_elim (λ o. suc (counted xs whole))
        (λ n. counted xs whole) b
    go (inl o) (inl i) h = omega (arith, h)
    go (inl o) (inr n) h = absurd (n (w.each x o))
    go (inr n) (inl i) h = omega (arith, h)
    go (inr n) (inr m) h = h

pub fewer : (xs part whole : List ℕ) (e k : ℕ) → Within part whole → Stands xs k e → IsOneOf whole e
    → (IsOneOf part e → ⊥) → counted xs part < counted xs whole
fewer [] part whole e k w s i n = cc
fewer (x ∷ xs) part whole e zero w s i n =
    go (member_told part x) (member_told whole x) (no_more_counted xs part whole w)
  where
    same : x ≡ e
    same = cc

    go : (a : IsOneOf part x ⊎ (IsOneOf part x → ⊥)) (b : IsOneOf whole x ⊎ (IsOneOf whole x → ⊥))
        → counted xs part ≤ counted xs whole
        → ⊎_elim (λ o. suc (counted xs part)) (λ n. counted xs part) a < ⊎_elim (λ o. suc (counted xs whole))
        (λ n. counted xs whole) b
    go (inl o) b h = absurd (n (subst (λ z. IsOneOf part z) same o))
    go (inr m) (inl o) h = omega (arith, h)
    go (inr m) (inr l) h = absurd (l (subst (λ z. IsOneOf whole z) (sym same) i))
fewer (x ∷ xs) part whole e (suc k) w s i n =
    go (member_told part x) (member_told whole x) (fewer xs part whole e k w s i n)
  where
    go : (a : IsOneOf part x ⊎ (IsOneOf part x → ⊥)) (b : IsOneOf whole x ⊎ (IsOneOf whole x → ⊥))
        → counted xs part < counted xs whole
        → ⊎_elim (λ o. suc (counted xs part)) (λ n. counted xs part) a < ⊎_elim (λ o. suc (counted xs whole))
        (λ n. counted xs whole) b
    go (inl o) (inl i) h = omega (arith, h)
    go (inl o) (inr n) h = absurd (n (w.each x o))
    go (inr n) (inl i) h = omega (arith, h)
    go (inr n) (inr m) h = h

-- where each least set with Q has P, and each set with P has Q, the least sets of both are the same
module _ (P Q : List ℕ → Type 0) (on : (set : List ℕ) → P set → Q set)
    (back : (set : List ℕ) → IsLeast Q set → P set) where
  pub least_on : {set : List ℕ} → IsLeast Q set → IsLeast P set
  least_on {set = set} h = record { has = back set h; least = λ part w p. h.least part w (on part p) }

  none_below : (set : List ℕ) → IsLeast P set → (n : ℕ) (part : List ℕ) → counted set part < n → Within part set
      → (Within set part → ⊥) → Q part → ⊥
  none_below set h zero part c w k q = absurd (omega (arith, c))
  none_below set h (suc n) part c w k q =
      let least : IsLeast Q part = from_words Q (record {
        has = q;
        no_lesser = λ sub v l r. ⊎_elim (λ a. l a)
            (λ a. let o = w.each a.event a.is_one in
            let d = fewer set sub part a.event o.place v o.stands a.is_one a.is_not in
            none_below set h n sub (omega (arith, c, d)) (within_then v w) (λ b. k (within_then b v)) r)
            (decided part sub);
      }) in
      k (h.least part w (back part least))

  pub least_back : {set : List ℕ} → IsLeast P set → IsLeast Q set
  least_back {set = set} h =
      from_words Q
      (record {
        has = on set h.has;
        no_lesser = λ part w k q. none_below set h (suc (counted set part)) part
            (omega arith) w k q;
      })

-- it is refuted that a set has P and that no least such set is within it
module _ (P : List ℕ → Type 0) (set : List ℕ) (none : (part : List ℕ) → Within part set → IsLeast P part → ⊥) where
  lesser_refuted : (most : ℕ) (part : List ℕ) → counted set part < most → Within part set → P part → ⊥
  lesser_refuted zero part c w p = absurd (omega (arith, c))
  lesser_refuted (suc most) part c w p = none part w (from_words P (record {
    has = p;
    no_lesser = λ sub v l r. ⊎_elim (λ a. l a)
        (λ a. let o = w.each a.event a.is_one in
        let d = fewer set sub part a.event o.place v o.stands a.is_one a.is_not in
        lesser_refuted most sub (omega (arith, c, d)) (within_then v w) r)
        (decided part sub);
  }))

  pub least_refuted : P set → ⊥
  least_refuted p = lesser_refuted (suc (counted set set)) set (omega arith) (within_self set) p
