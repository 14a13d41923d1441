-- How many items of a list pass a test.
use Rattle.std.proofs.Common.{◌≡◌, ℕ, zero, suc, ◌≤◌, ◌<◌, Bool, true, false, List, [], ◌∷◌, length, refl, ◌∙◌, ap, arith}
use Rattle.ar_base.specs.Lists.{Stands}
use Rattle.ar_base.proofs.Standing.{stands_none}

-- one more where the test is passed
abbrev pub one_if : Bool → ℕ → ℕ
one_if true n = suc n
one_if false n = n

module _ {A : Type 0} where
  -- how many pass the test
  abbrev pub passing : (A → Bool) → List A → ℕ
  passing test [] = 0
  passing test (x ∷ xs) = one_if (test x) (passing test xs)

  -- no more than the list has
  pub passing_length : (test : A → Bool) (xs : List A) → passing test xs ≤ length xs
  passing_length test [] = omega arith
  passing_length test (x ∷ xs) = go (test x) (passing_length test xs)
    where
      go : (b : Bool) → passing test xs ≤ length xs → one_if b (passing test xs) ≤ suc (length xs)
      go true h = omega (arith, h)
      go false h = omega (arith, h)

module _ {A : Type 0} (less more : A → Bool) (within : (x : A) → less x ≡ true → more x ≡ true) where
  -- where one test is passed by what passes the other
  pub no_more : (xs : List A) → passing less xs ≤ passing more xs
  no_more [] = omega arith
  no_more (x ∷ xs) = go (less x) (more x) refl refl (no_more xs)
    where
      go : (a b : Bool) → less x ≡ a → more x ≡ b → passing less xs ≤ passing more xs
          → one_if a (passing less xs) ≤ one_if b (passing more xs)
      go true true i j h = omega (arith, h)
      go true false i j h = let k = within x i in cc
      go false true i j h = omega (arith, h)
      go false false i j h = h

  -- fewer pass where one passes the other test alone
  pub fewer : (xs : List A) (k : ℕ) (e : A) → Stands xs k e → less e ≡ false → more e ≡ true
      → passing less xs < passing more xs
  fewer [] k e s p q = absurd (stands_none k e s)
  fewer (x ∷ xs) zero e s p q = go (less x) (more x) refl refl (no_more xs)
    where
      same : x ≡ e
      same = cc

      go : (a b : Bool) → less x ≡ a → more x ≡ b → passing less xs ≤ passing more xs
          → one_if a (passing less xs) < one_if b (passing more xs)
      go true b i j h = let k : less x ≡ false = ap less same ∙ p in cc
      go false true i j h = omega (arith, h)
      go false false i j h = let k : more x ≡ true = ap more same ∙ q in cc
  fewer (x ∷ xs) (suc k) e s p q = go (less x) (more x) refl refl (fewer xs k e s p q)
    where
      go : (a b : Bool) → less x ≡ a → more x ≡ b → passing less xs < passing more xs
          → one_if a (passing less xs) < one_if b (passing more xs)
      go true true i j h = omega (arith, h)
      go true false i j h = let k = within x i in cc
      go false true i j h = omega (arith, h)
      go false false i j h = h
