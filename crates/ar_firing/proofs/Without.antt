-- A list of numbers without one of them, and why different numbers of a list are no more than it has.
use Rattle.std.proofs.Common.{◌≡◌, ◌<◌, ◌≤◌, ℕ, zero, suc, Bool, true, false, cond, ◌==◌, List, [], ◌∷◌, length, Some, ap, refl, sym, arith}
use Rattle.std.proofs.lemmas.Bool.Decides.{nat_tests}
use Rattle.ar_base.specs.Lists.{Stands, IsOneOf, AreDifferent}

-- the list without a number
abbrev pub without : ℕ → List ℕ → List ℕ
without e [] = []
without e (x ∷ xs) = cond (x == e) (without e xs) (x ∷ without e xs)

pub kept : (e : ℕ) (xs : List ℕ) (k a : ℕ) → Stands xs k a → (a ≡ e → ⊥) → IsOneOf (without e xs) a
kept e [] k a s n = cc
kept e (x ∷ xs) zero a s n =
    let i : x ≡ a = cc in
    let j : (x == e) ≡ false = grind (arith, nat_tests) in
    rw j (record { place = zero; stands = ap (λ z. Some z) i })
kept e (x ∷ xs) (suc k) a s n = go (x == e) (kept e xs k a s n)
  where
    go : (b : Bool) → IsOneOf (without e xs) a → IsOneOf (cond b (without e xs) (x ∷ without e xs)) a
    go true o = o
    go false o = record { place = suc o.place; stands = o.stands }

pub was : (e : ℕ) (xs : List ℕ) (k a : ℕ) → Stands (without e xs) k a → IsOneOf xs a × (a ≡ e → ⊥)
was e [] k a s = cc
was e (x ∷ xs) k a s = go (x == e) refl (λ j t. was e xs j a t) s
  where
    go : (b : Bool) → (x == e) ≡ b → ((j : ℕ) → Stands (without e xs) j a → IsOneOf xs a × (a ≡ e → ⊥))
        → Stands (cond b (without e xs) (x ∷ without e xs)) k a → IsOneOf (x ∷ xs) a × (a ≡ e → ⊥)
    go true i h s = let o = h k s in (record { place = suc o.0.place; stands = o.0.stands }, o.1)
    go false i h s = here k s
      where
        here : (k : ℕ) → Stands (x ∷ without e xs) k a → IsOneOf (x ∷ xs) a × (a ≡ e → ⊥)
        here zero s =
            let q : x ≡ a = cc in
            (record { place = zero; stands = ap (λ z. Some z) q }, λ r. grind (arith, nat_tests))
        here (suc j) s = let o = h j s in (record { place = suc o.0.place; stands = o.0.stands }, o.1)

shorter_or_same : (e : ℕ) (xs : List ℕ) → length (without e xs) ≤ length xs
shorter_or_same e [] = omega arith
shorter_or_same e (x ∷ xs) = go (x == e) (shorter_or_same e xs)
  where
    go : (b : Bool) → length (without e xs) ≤ length xs
        → length (cond b (without e xs) (x ∷ without e xs)) ≤ suc (length xs)
    go true h = omega (arith, h)
    go false h = omega (arith, h)

shorter : (e : ℕ) (xs : List ℕ) (k : ℕ) → Stands xs k e → length (without e xs) < length xs
shorter e [] k s = cc
shorter e (x ∷ xs) zero s =
    let i : x ≡ e = cc in
    let j : (x == e) ≡ true = grind (arith, nat_tests) in
    let h = shorter_or_same e xs in
    rw j (omega (arith, h))
shorter e (x ∷ xs) (suc k) s = go (x == e) (shorter e xs k s)
  where
    go : (b : Bool) → length (without e xs) < length xs
        → length (cond b (without e xs) (x ∷ without e xs)) < suc (length xs)
    go true h = omega (arith, h)
    go false h = omega (arith, h)

-- different numbers of a list are no more than it has
pub no_more : (xs ys : List ℕ) → AreDifferent xs → ((k e : ℕ) → Stands xs k e → IsOneOf ys e) → length xs ≤ length ys
no_more [] ys d h = omega arith
no_more (x ∷ xs) ys d h =
    let o = h zero x refl in
    let s = shorter x ys o.place o.stands in
    let r =
    no_more xs (without x ys)
    (record { one = λ m n a p q. let i = d.one (suc m) (suc n) a p q in omega (arith, i) })
    (λ k e p. let m = h (suc k) e p in kept x ys m.place e m.stands (λ i. absurd (apart k e p i))) in
    omega (arith, s, r)
  where
    apart : (k e : ℕ) → Stands xs k e → e ≡ x → ⊥
    apart k e p i =
        let q : Stands (x ∷ xs) zero e = ap (λ z. Some z) (sym i) in
        let j = d.one zero (suc k) e q p in
        absurd (omega (arith, j))
