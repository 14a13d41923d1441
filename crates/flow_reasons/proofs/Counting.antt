-- How many variables have no fact yet.
use Rattle.std.proofs.Common.{◌≡◌, ◌<◌, ◌≤◌, ℕ, zero, suc, Bool, true, false, List, [], ◌∷◌, length, if◌then◌else◌, refl, sym, ap, subst, arith}
use Rattle.ar_base.specs.Lists.{Stands}
use Rattle.ar_base.proofs.Standing.{stands_none}
use Rattle.flow_reasons.specs.declared.fact_marks.Mark.{Mark}
use Rattle.flow_reasons.specs.FactMarks.{is_fact, HasNoFact}
use Rattle.flow_reasons.specs.Marks.{unknown_count}

abbrev one : Mark → ℕ
one m = if is_fact m then 0 else 1

one_at : (m : Mark) (b : Bool) → is_fact m ≡ b → one m ≡ (if b then 0 else 1)
one_at m b e = ap (λ (z : Bool). (let n : ℕ = if z then 0 else 1 in n)) e

one_most : (m : Mark) → one m ≤ 1
one_most m = go (is_fact m)
  where
    go : (b : Bool) → (if b then 0 else 1) ≤ 1
    go true = omega arith
    go false = omega arith

pub count_most : (ms : List Mark) → unknown_count ms ≤ length ms
count_most [] = omega arith
count_most (m ∷ ms) = let h = count_most ms in let k = one_most m in omega (arith, h, k)

-- an open one counts
pub open_counts : (ms : List Mark) (n : ℕ) → HasNoFact ms n → 0 < unknown_count ms
open_counts [] n o = absurd (stands_none n o.mark o.stands)
open_counts (m ∷ ms) zero o =
    let e : m ≡ o.mark = cc (o.stands) in
    let i = one_at m false (subst (λ (z : Mark). is_fact z ≡ false) (sym e) o.is) in omega (arith, i)
open_counts (m ∷ ms) (suc n) o = let h = open_counts ms n (record { mark = o.mark; stands = o.stands; is = o.is }) in omega (arith, h)

-- what has its fact keeps it
abbrev pub Keeps : List Mark → List Mark → Type 0
Keeps old new = (n : ℕ) (m : Mark) → Stands old n m → is_fact m ≡ true → Stands new n m

one_less : (x y : Mark) → (is_fact x ≡ true → x ≡ y) → one y ≤ one x
one_less x y h = go (is_fact x) refl
  where
    go : (b : Bool) → is_fact x ≡ b → one y ≤ one x
    go true e = let i = ap one (h e) in omega (arith, i)
    go false e = let i = one_at x false e in let k = one_most y in omega (arith, i, k)

pub no_more : (old new : List Mark) → length new ≡ length old → Keeps old new → unknown_count new ≤ unknown_count old
no_more [] [] e k = omega arith
no_more [] (y ∷ new) e k = absurd (omega (arith, e))
no_more (x ∷ old) [] e k = absurd (omega (arith, e))
no_more (x ∷ old) (y ∷ new) e k =
    let h = no_more old new (omega (arith, e)) (λ n m s i. k (suc n) m s i) in
    let i = one_less x y (λ i. (let s = k 0 x refl i in cc (s))) in omega (arith, h, i)

-- one that was open and is not any more
pub fewer : (old new : List Mark) → length new ≡ length old → Keeps old new → (n : ℕ) → HasNoFact old n
    → (HasNoFact new n → ⊥)
    → unknown_count new < unknown_count old
fewer [] new e k n o c = absurd (stands_none n o.mark o.stands)
fewer (x ∷ old) [] e k n o c = absurd (omega (arith, e))
fewer (x ∷ old) (y ∷ new) e k zero o c =
    let h = no_more old new (omega (arith, e)) (λ n m s i. k (suc n) m s i) in
    let j : x ≡ o.mark = cc (o.stands) in
    let i = one_at x false (subst (λ (z : Mark). is_fact z ≡ false) (sym j) o.is) in
    let u : one y ≡ 0 = go (is_fact y) refl in omega (arith, h, i, u)
  where
    go : (b : Bool) → is_fact y ≡ b → one y ≡ 0
    go true e = one_at y true e
    go false e = absurd (c (record { mark = y; stands = refl; is = e }))
fewer (x ∷ old) (y ∷ new) e k (suc n) o c =
    let h = fewer old new (omega (arith, e)) (λ n m s i. k (suc n) m s i) n
    (record { mark = o.mark; stands = o.stands; is = o.is })
    (λ q. c (record { mark = q.mark; stands = q.stands; is = q.is })) in
    let i = one_less x y (λ i. (let s = k 0 x refl i in cc (s))) in omega (arith, h, i)
