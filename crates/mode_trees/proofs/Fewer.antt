-- Different items of a list are no more than it has.
use Rattle.std.proofs.Common.{◌≡◌, ◌≤◌, ℕ, zero, suc, List, [], ◌∷◌, length, Some, ap, refl, sym, subst, arith}
use Rattle.ar_base.specs.Lists.{Stands, IsOneOf, AreDifferent}
use Rattle.ar_base.proofs.Standing.{stands_one, stands_none}

module _ {A : Type 0} where
  -- the list without its item at a place
  abbrev pub removed : ℕ → List A → List A
  removed n [] = []
  removed zero (x ∷ xs) = xs
  removed (suc n) (x ∷ xs) = x ∷ removed n xs

  removed_long : (n : ℕ) (xs : List A) (a : A) → Stands xs n a → length xs ≡ suc (length (removed n xs))
  removed_long n [] a s = absurd (stands_none n a s)
  removed_long zero (x ∷ xs) a s = refl
  removed_long (suc n) (x ∷ xs) a s = ap suc (removed_long n xs a s)

  removed_has : (n m : ℕ) (xs : List A) (e : A) → Stands xs m e → (m ≡ n → ⊥) → IsOneOf (removed n xs) e
  removed_has n m [] e s d = absurd (stands_none m e s)
  removed_has zero zero (x ∷ xs) e s d = absurd (d refl)
  removed_has zero (suc m) (x ∷ xs) e s d = record { place = m; stands = s }
  removed_has (suc n) zero (x ∷ xs) e s d = record { place = zero; stands = s }
  removed_has (suc n) (suc m) (x ∷ xs) e s d = let o = removed_has n m xs e s (λ i. d (ap suc i)) in record { place = suc o.place; stands = o.stands }

  pub no_more : (xs ys : List A) → AreDifferent xs → ((k : ℕ) (e : A) → Stands xs k e → IsOneOf ys e)
      → length xs ≤ length ys
  no_more [] ys d h = omega arith
  no_more (x ∷ xs) ys d h =
      let o = h zero x refl in
      let s = removed_long o.place ys x o.stands in
      let r = no_more xs (removed o.place ys)
      (record { one = λ m n a p q. let i = d.one (suc m) (suc n) a p q in omega (arith, i) })
      (λ k e p. let m = h (suc k) e p in removed_has o.place m.place ys e m.stands (λ i.
      let same = stands_one ys o.place e x (subst (λ (z : ℕ). Stands ys z e) i m.stands) o.stands in
      let j = d.one zero (suc k) e (ap Some (sym same)) p in
      absurd (omega (arith, j)))) in
      omega (arith, s, r)
