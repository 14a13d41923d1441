-- Sets of numbers as ascending lists.
use Rattle.std.proofs.Common.{◌≡◌, ℕ, zero, suc, ◌+◌, ◌<◌, ◌≤◌, ◌⊎◌, inl, inr, Some, List, [], ◌∷◌, ◌++◌, length, refl, ap, arith}
use Rattle.std.proofs.lemmas.Bool.{cases_eq}
use Rattle.ar_base.specs.Lists.{Stands, IsOneOf}
use Rattle.ar_base.specs.Sets.{Ascends, Within}
use Rattle.ar_base.proofs.Standing.{stands_none, stands_within, stands_split, one_none, one_cases, one_first, one_rest}

-- what stands behind the first ascends
pub ascends_rest : (x : ℕ) (xs : List ℕ) → Ascends (x ∷ xs) → Ascends xs
ascends_rest x xs up = record { ascends = λ j k a b l p q. up.ascends (suc j) (suc k) a b (omega (arith, l)) p q }

-- the first is less than those behind it
pub ascends_first : (x : ℕ) (xs : List ℕ) → Ascends (x ∷ xs) → (n : ℕ) → IsOneOf xs n → x < n
ascends_first x xs up n o = up.ascends 0 (suc o.place) x n (omega arith) refl o.stands

-- a new greatest item keeps the list ascending
pub ascends_push : (xs : List ℕ) (x : ℕ) → Ascends xs → ((n : ℕ) → IsOneOf xs n → n < x) → Ascends (xs ++ x ∷ [])
ascends_push xs x up below = record
    { ascends = λ j k m n lt p q. by j k m n lt (stands_split xs (x ∷ []) j m p) (stands_split xs (x ∷ []) k n q) }
  where
    last : (k n : ℕ) → Stands (x ∷ []) k n → (k ≡ 0) × (n ≡ x)
    last zero n p = (refl, cc)
    last (suc k) n p = absurd (stands_none k n p)

    by : (j k m n : ℕ) → j < k → Stands xs j m ⊎ ((i : ℕ) × (j ≡ length xs + i) × Stands (x ∷ []) i m)
        → Stands xs k n ⊎ ((i : ℕ) × (k ≡ length xs + i) × Stands (x ∷ []) i n) → m < n
    by j k m n lt (inl p) (inl q) = up.ascends j k m n lt p q
    by j k m n lt (inl p) (inr q) = let is = (last q.0 n q.2).1 in let low = below m (record { place = j; stands = p }) in omega arith
    by j k m n lt (inr p) (inl q) = absurd (let within = stands_within xs k n q in omega (arith, p.1))
    by j k m n lt (inr p) (inr q) = let e = (last p.0 m p.2).0 in let f = (last q.0 n q.2).0 in absurd (omega (arith, p.1, q.1))

-- ascending lists with the same numbers are one
pub same_ascending : (xs ys : List ℕ) → Ascends xs → Ascends ys → ((n : ℕ) → IsOneOf xs n → IsOneOf ys n)
    → ((n : ℕ) → IsOneOf ys n → IsOneOf xs n) → xs ≡ ys
same_ascending [] [] up_x up_y to from = refl
same_ascending [] (y ∷ ys) up_x up_y to from = absurd (one_none y (from y (one_first y ys)))
same_ascending (x ∷ xs) [] up_x up_y to from = absurd (one_none x (to x (one_first x xs)))
same_ascending (x ∷ xs) (y ∷ ys) up_x up_y to from =
    let low_x : y ≤ x = elim (one_cases y ys x (to x (one_first x xs))) [ inl is ↦ omega arith | inr one ↦ let lt = ascends_first y ys up_y x one in omega arith ] in
    let low_y : x ≤ y = elim (one_cases x xs y (from y (one_first y ys))) [ inl is ↦ omega arith | inr one ↦ let lt = ascends_first x xs up_x y one in omega arith ] in
    let is : x ≡ y = omega arith in
    let rest : xs ≡ ys = same_ascending xs ys (ascends_rest x xs up_x) (ascends_rest y ys up_y)
    (λ n one. elim (one_cases y ys n (to n (one_rest x xs n one))) [ inl e ↦ absurd (let lt = ascends_first x xs up_x n one in omega arith) | inr there ↦ there ])
    (λ n one. elim (one_cases x xs n (from n (one_rest y ys n one))) [ inl e ↦ absurd (let lt = ascends_first y ys up_y n one in omega arith) | inr there ↦ there ]) in
    λ j. is j ∷ rest j

-- a number is one of these or not
pub member_told : (xs : List ℕ) (n : ℕ) → IsOneOf xs n ⊎ (IsOneOf xs n → ⊥)
member_told [] n = inr (λ o. one_none n o)
member_told (x ∷ xs) n = go (cases_eq x n) (member_told xs n)
  where
    go : (x ≡ n) ⊎ (x ≡ n → ⊥) → IsOneOf xs n ⊎ (IsOneOf xs n → ⊥) → IsOneOf (x ∷ xs) n ⊎ (IsOneOf (x ∷ xs) n → ⊥)
    go (inl e) h = inl (record { place = 0; stands = ap Some e })
    go (inr f) (inl o) = inl (one_rest x xs n o)
    go (inr f) (inr g) = inr (λ o. elim (one_cases x xs n o) [ inl e ↦ f e | inr k ↦ g k ])

-- a set is within itself
pub within_self : (xs : List ℕ) → Within xs xs
within_self xs = record { each = λ e o. o }
