-- How many items of a list pass a test.
use Rattle.std.proofs.Common.{◌≡◌, ℕ, zero, suc, ◌<◌, ◌≤◌, ◌⊎◌, inl, inr, Bool, true, false, List, [], ◌∷◌, length, refl, subst, arith}
use Rattle.ar_base.specs.Lists.{Stands, IsOneOf}

-- one more where the test is true
abbrev more : Bool → ℕ → ℕ
more true n = suc n
more false n = n

abbrev pub how_many : {A : Type 0} → (A → Bool) → List A → ℕ
how_many p [] = 0
how_many p (x ∷ xs) = more (p x) (how_many p xs)

more_le : (b c : Bool) (m n : ℕ) → (b ≡ true → c ≡ true) → m ≤ n → more b m ≤ more c n
more_le true true m n h l = omega (arith, l)
more_le true false m n h l = absurd (let k = h refl in cc)
more_le false true m n h l = omega (arith, l)
more_le false false m n h l = l

more_less : (b c : Bool) (m n : ℕ) → (b ≡ true → c ≡ true) → m < n → more b m < more c n
more_less true true m n h l = omega (arith, l)
more_less true false m n h l = absurd (let k = h refl in cc)
more_less false true m n h l = omega (arith, l)
more_less false false m n h l = l

more_most : (b : Bool) (m n : ℕ) → m ≤ n → more b m ≤ suc n
more_most true m n l = omega (arith, l)
more_most false m n l = omega (arith, l)

module _ {A : Type 0} (p q : A → Bool) where
  -- a wider test passes no fewer
  pub wider : (xs : List A) → ((n : ℕ) (x : A) → Stands xs n x → p x ≡ true → q x ≡ true)
      → how_many p xs ≤ how_many q xs
  wider [] h = omega arith
  wider (x ∷ xs) h = more_le (p x) (q x) (how_many p xs) (how_many q xs) (h zero x refl)
      (wider xs (λ n y s. h (suc n) y s))

  -- and more where it passes an item that the other does not
  pub wider_by_one : (xs : List A) → ((n : ℕ) (x : A) → Stands xs n x → p x ≡ true → q x ≡ true) → (n : ℕ) (x : A)
      → Stands xs n x → p x ≡ false → q x ≡ true
      → how_many p xs < how_many q xs
  wider_by_one [] h zero x s e f = cc
  wider_by_one [] h (suc n) x s e f = cc
  wider_by_one (x ∷ xs) h zero y s e f =
      let l = wider xs (λ n z t. h (suc n) z t) in
      let i : p x ≡ false = cc in let j : q x ≡ true = cc in
      rw i rw j (omega (arith, l))
  wider_by_one (x ∷ xs) h (suc n) y s e f = more_less (p x) (q x) (how_many p xs) (how_many q xs) (h zero x refl)
      (wider_by_one xs (λ m z t. h (suc m) z t) n y s e f)

module _ {A : Type 0} (p : A → Bool) where
  -- no more pass than there are
  pub at_most : (xs : List A) → how_many p xs ≤ length xs
  at_most [] = omega arith
  at_most (x ∷ xs) = more_most (p x) (how_many p xs) (length xs) (at_most xs)

  -- where as many pass as there are, each passes
  pub each_passes : (xs : List A) → length xs ≤ how_many p xs → (n : ℕ) (x : A) → Stands xs n x → p x ≡ true
  each_passes [] h zero x s = cc
  each_passes [] h (suc n) x s = cc
  each_passes (x ∷ xs) h n y s = go (p x) refl (λ l m t. each_passes xs l m y t) n s
    where
      go : (b : Bool) → p x ≡ b → (length xs ≤ how_many p xs → (m : ℕ) → Stands xs m y → p y ≡ true) → (n : ℕ)
          → Stands (x ∷ xs) n y → p y ≡ true
      go true e r zero t = cc
      go true e r (suc n) t = r (let k : suc (length xs) ≤ more true (how_many p xs) = subst
          (λ (b : Bool). suc (length xs) ≤ more b (how_many p xs)) e h in omega (arith, k)) n t
      go false e r n t = let k : suc (length xs) ≤ more false (how_many p xs) = subst (λ (b : Bool). suc
          (length xs) ≤ more b (how_many p xs)) e h in let l = at_most xs in absurd (omega (arith, k, l))

-- the first where it is true, else the second
abbrev first_or : Bool → Bool → Bool
first_or true b = true
first_or false b = b

-- one of the items passes
abbrev pub one_passes : {A : Type 0} → (A → Bool) → List A → Bool
one_passes p [] = false
one_passes p (x ∷ xs) = first_or (p x) (one_passes p xs)

first_true : (b c : Bool) → b ≡ true → first_or b c ≡ true
first_true b c e = rw e refl

rest_true : (b c : Bool) → c ≡ true → first_or b c ≡ true
rest_true true c e = refl
rest_true false c e = e

either_true : (b c : Bool) → first_or b c ≡ true → (b ≡ true) ⊎ (c ≡ true)
either_true true c e = inl refl
either_true false c e = inr e

pub passes_there : {A : Type 0} (p : A → Bool) (xs : List A) (n : ℕ) (x : A) → Stands xs n x → p x ≡ true
    → one_passes p xs ≡ true
passes_there p [] zero x s e = cc
passes_there p [] (suc n) x s e = cc
passes_there p (y ∷ xs) zero x s e = first_true (p y) (one_passes p xs) cc
passes_there p (y ∷ xs) (suc n) x s e = rest_true (p y) (one_passes p xs) (passes_there p xs n x s e)

pub one_that_passes : {A : Type 0} (p : A → Bool) (xs : List A) → one_passes p xs ≡ true
    → (x : A) × IsOneOf xs x × (p x ≡ true)
one_that_passes p [] e = absurd cc
one_that_passes p (x ∷ xs) e = elim (either_true (p x) (one_passes p xs) e) [
  | inl h ↦ (x, record { place = zero; stands = refl }, h)
  | inr h ↦ let r = one_that_passes p xs h in (r.0, record { place = suc r.1.place; stands = r.1.stands }, r.2)
]

-- each item has P, or one has Q
pub all_or_one : {A : Type 0} (P Q : A → Type 0) (xs : List A) → ((x : A) → IsOneOf xs x → P x ⊎ Q x)
    → ((x : A) → IsOneOf xs x → P x) ⊎ ((x : A) × IsOneOf xs x × Q x)
all_or_one {A = A} P Q [] h = inl (λ x o. absurd (none o.place x o.stands))
  where
    none : (n : ℕ) (x : A) → Stands [] n x → ⊥
    none zero x s = cc
    none (suc n) x s = cc
all_or_one {A = A} P Q (x ∷ xs) h = go (h x (record { place = zero; stands = refl }))
    (all_or_one P Q xs (λ y o. h y (record { place = suc o.place; stands = o.stands })))
  where
    each : P x → ((y : A) → IsOneOf xs y → P y) → (y : A) (n : ℕ) → Stands (x ∷ xs) n y → P y
    each p f y zero s = let e : x ≡ y = cc in subst P e p
    each p f y (suc n) s = f y (record { place = n; stands = s })

    go : P x ⊎ Q x → ((y : A) → IsOneOf xs y → P y) ⊎ ((y : A) × IsOneOf xs y × Q y)
        → ((y : A) → IsOneOf (x ∷ xs) y → P y) ⊎ ((y : A) × IsOneOf (x ∷ xs) y × Q y)
    go (inl p) (inl f) = inl (λ y o. each p f y o.place o.stands)
    go (inl p) (inr r) = inr (r.0, record { place = suc r.1.place; stands = r.1.stands }, r.2)
    go (inr q) r = inr (x, record { place = zero; stands = refl }, q)
