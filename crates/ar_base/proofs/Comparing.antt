-- Numbers, places in a text, and their order.
use Rattle.std.proofs.Common.{◌≡◌, ℕ, zero, suc, ◌<◌, ◌≤◌, ◌⊎◌, inl, inr, true, nat_lt, ◌==◌, refl, sym, ap, arith}
use Rattle.std.proofs.lemmas.Bool.{cases_lt, cases_order, ltb-true, eq-eqb}
use Rattle.ar_base.specs.Breach.{IsEarlier}
use Rattle.ar_base.specs.declared.numbers.Id.{Id}
use Rattle.ar_base.specs.declared.places.Place.{Place}

-- one number is at most another, or above it
pub side : (m n : ℕ) → (m ≤ n) ⊎ (n < m)
side m n = elim (cases_lt n m) [ inl h ↦ inr h | inr h ↦ inl h ]

-- a number is less than another, the same, or greater
pub three : (m n : ℕ) → (m < n) ⊎ ((m ≡ n) ⊎ (n < m))
three m n = elim (cases_order m n) [ inl e ↦ inr (inl e) | inr h ↦ (elim h [ inl l ↦ inl l | inr g ↦ inr (inr g) ]) ]

-- what is at most a number is less, or the same
pub lt_or_same : (m n : ℕ) → m ≤ n → (m < n) ⊎ (m ≡ n)
lt_or_same m n l = elim (cases_lt m n) [ inl a ↦ inl a | inr b ↦ inr (omega (arith, l, b)) ]

-- what tests as less is at most
pub low : (m n : ℕ) → nat_lt m n ≡ true → m ≤ n
low m n e = let h = ltb-true m n e in omega (arith, h)

-- a number tests as itself
pub itself : (n : ℕ) → (n == n) ≡ true
itself n = eq-eqb n n refl

-- what holds at a place and at none before it holds first there
pub first_place : (P : ℕ → Type 0) (n : ℕ) → P n → ((k : ℕ) → k < n → P k → ⊥) → P n × ((k : ℕ) → P k → n ≤ k)
first_place P n h before = (h, λ k q. by k q (side n k))
  where
    by : (k : ℕ) → P k → (n ≤ k) ⊎ (k < n) → n ≤ k
    by k q (inl l) = l
    by k q (inr l) = absurd (before k l q)

-- typed numbers that are one number are one
pub id_from : {K : Type 0} (a b : Id K) → a.n ≡ b.n → a ≡ b
id_from a b e = ap (λ n. record { n = n; of = a.of }) e

-- the order of places
pub earlier_then : (p q r : Place) → IsEarlier p q → IsEarlier q r → IsEarlier p r
earlier_then p q r (inl a) (inl b) = inl (omega (arith, a, b))
earlier_then p q r (inl a) (inr b) = inl (omega (arith, a, b.0))
earlier_then p q r (inr a) (inl b) = inl (omega (arith, a.0, b))
earlier_then p q r (inr a) (inr b) = inr (omega (arith, a.0, b.0), omega (arith, a.1, b.1))

-- no place is before itself
pub not_before : (q p : Place) → IsEarlier q p → q ≡ p → ⊥
not_before q p b d = let g = ap (λ (z : Place). z.line) d in let i = ap (λ (z : Place). z.column) d in elim b [ inl l ↦ omega (arith, l, g) | inr l ↦ omega (arith, l.1, i) ]

-- what is before the first of two places that are in order is before the second
pub earlier_not : (p q r : Place) → IsEarlier p q → (IsEarlier r q → ⊥) → IsEarlier p r
earlier_not p q r h k = by h
  where
    lines : q.line ≤ r.line
    lines = elim (cases_lt r.line q.line) [ inl a ↦ absurd (k (inl a)) | inr b ↦ b ]

    by : IsEarlier p q → IsEarlier p r
    by (inl a) = inl (omega (arith, a, lines))
    by (inr a) = by_line (lt_or_same q.line r.line lines)
      where
        by_line : (q.line < r.line) ⊎ (q.line ≡ r.line) → IsEarlier p r
        by_line (inl b) = inl (omega (arith, a.0, b))
        by_line (inr b) = elim (cases_lt r.column q.column)
            [ inl c ↦ absurd (k (inr (sym b, c))) | inr c ↦ inr (omega (arith, a.0, b), omega (arith, a.1, c)) ]
