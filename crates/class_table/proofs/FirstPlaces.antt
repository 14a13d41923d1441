-- The earliest of places.
use Rattle.std.proofs.Common.{◌≡◌, ℕ, ◌+◌, ◌<◌, ◌⊎◌, Option, Some, None, sym, subst, inl, inr, arith}
use Rattle.ar_base.specs.Breach.{IsEarlier}
use Rattle.ar_base.specs.declared.places.Place.{Place}
use Rattle.ar_base.proofs.Comparing.{lt_or_same, earlier_then, earlier_not}
use Rattle.class_table.specs.Earliest.{IsEarliest, nowhere, there, IsEarlierOf, no_first, no_second, first, second, Until, IsNotBefore, behind}

-- by equations of what the cases are
pub of_first : (f g : Option Place) → f ≡ None → IsEarlierOf f g g
of_first f g e = subst (λ (z : Option Place). IsEarlierOf z g g) (sym e) no_first

pub of_second : (f g : Option Place) (p : Place) → f ≡ Some p → g ≡ None → IsEarlierOf f g (Some p)
of_second f g p e i =
    subst (λ (z : Option Place). IsEarlierOf z g (Some p)) (sym e)
    (subst (λ (z : Option Place). IsEarlierOf (Some p) z (Some p)) (sym i) no_second)

pub of_both : (f g r : Option Place) (p q : Place) → f ≡ Some p → g ≡ Some q → IsEarlierOf (Some p) (Some q) r
    → IsEarlierOf f g r
of_both f g r p q e i h =
    subst (λ (z : Option Place). IsEarlierOf z g r) (sym e)
    (subst (λ (z : Option Place). IsEarlierOf (Some p) z r) (sym i) h)

module _ {P Q : Place → Type 0} where
  -- the earliest place of either of two properties
  pub earliest_both : (f g r : Option Place) → IsEarliest P f → IsEarliest Q g → IsEarlierOf f g r
      → IsEarliest (λ p. P p ⊎ Q p) r
  earliest_both f g r (nowhere h) (nowhere k) no_first = nowhere (λ p b. elim b [ inl a ↦ h p a | inr a ↦ k p a ])
  earliest_both f g r (nowhere h) (there a k) no_first =
      there (inr a) (λ q e b. elim b [ inl c ↦ h q c | inr c ↦ k q e c ])
  earliest_both f g r (there a h) (nowhere k) no_second =
      there (inl a) (λ q e b. elim b [ inl c ↦ h q e c | inr c ↦ k q c ])
  earliest_both f g r (there {p = p} a h) (there {p = s} b k) (first n) =
      there (inl a) (λ q e d. elim d [ inl c ↦ h q e c | inr c ↦ k q (earlier_not q p s e n) c ])
  earliest_both f g r (there {p = p} a h) (there {p = s} b k) (second n) =
      there (inr b) (λ q e d. elim d [ inl c ↦ h q (earlier_then q s p e n) c | inr c ↦ k q e c ])

  -- the earliest place of a property that holds at the same places
  pub earliest_same : (f : Option Place) → ((p : Place) → P p → Q p) → ((p : Place) → Q p → P p) → IsEarliest P f
      → IsEarliest Q f
  earliest_same f to from (nowhere h) = nowhere (λ p q. h p (from p q))
  earliest_same f to from (there {p = p} a h) = there (to p a) (λ q e b. h q e (from q b))

-- what is not before the place found is not before the earlier one of two
pub behind_earlier : (f g r : Option Place) (p : Place) → IsNotBefore p f → IsEarlierOf f g r → IsNotBefore p r
behind_earlier f g r p (behind n) no_second = behind n
behind_earlier f g r p (behind n) (first m) = behind n
behind_earlier f g r p (behind {p = q} n) (second {q = s} e) = behind (λ h. n (earlier_then p s q h e))

module _ {P Q R : Place → Type 0} where
  -- the earliest place of either of two properties, where the second was tested only at places before the first found
  pub earliest_beside : (f g r : Option Place) → IsEarliest P f → IsEarliest R g → IsEarlierOf f g r
      → ((p : Place) → R p → Q p) → ((p : Place) → Q p → R p ⊎ IsNotBefore p f) → IsEarliest (λ p. P p ⊎ Q p) r
  earliest_beside f g r h k e to from = go r (earliest_both f g r h k e) (λ p b. behind_earlier f g r p b e)
    where
      past : (q s : Place) → IsEarlier q s → IsNotBefore q (Some s) → ⊥
      past q s l (behind m) = m l

      go : (r : Option Place) → IsEarliest (λ p. P p ⊎ R p) r → ((p : Place) → IsNotBefore p f → IsNotBefore p r)
          → IsEarliest (λ p. P p ⊎ Q p) r
      go None (nowhere n) still = nowhere (λ p b. elim b [
        | inl a ↦ n p (inl a)
        | inr a ↦ elim (from p a) [ inl c ↦ n p (inr c) | inr c ↦ (elim (still p c) [ ]) ]
      ])
      go (Some s) (there a n) still = there (either a) (λ q l b. elim b [
        | inl c ↦ n q l (inl c)
        | inr c ↦ elim (from q c) [ inl d ↦ n q l (inr d) | inr d ↦ past q s l (still q d) ]
      ])
        where
          either : P s ⊎ R s → P s ⊎ Q s
          either (inl c) = inl c
          either (inr c) = inr (to s c)

module _ {P : ℕ → Place → Type 0} where
  -- the earliest place so far, and with one number more
  pub earliest_start : IsEarliest (Until P 0) None
  earliest_start = nowhere (λ p u. omega (arith, u.below))

  pub earliest_more : (n : ℕ) (r : Option Place) → IsEarliest (λ p. Until P n p ⊎ P n p) r → IsEarliest (Until P (n + 1)) r
  earliest_more n r h = earliest_same r to from h
    where
      to : (p : Place) → Until P n p ⊎ P n p → Until P (n + 1) p
      to p (inl u) = record { k = u.k; below = omega (arith, u.below); holds = u.holds }
      to p (inr u) = record { k = n; below = omega arith; holds = u }

      last : (k : ℕ) → k < n + 1 → (k < n) ⊎ (k ≡ n)
      last k l = lt_or_same k n (omega (arith, l))

      from : (p : Place) → Until P (n + 1) p → Until P n p ⊎ P n p
      from p u = elim (last u.k u.below) [
        | inl l ↦ inl (record { k = u.k; below = l; holds = u.holds })
        | inr e ↦ inr (subst (λ (m : ℕ). P m p) e u.holds)
      ]

  pub earliest_next : (n : ℕ) (f g r : Option Place) → IsEarliest (Until P n) f → IsEarliest (P n) g → IsEarlierOf f g r
      → IsEarliest (Until P (n + 1)) r
  earliest_next n f g r h k e = earliest_more n r (earliest_both f g r h k e)
