-- Lists of values and of flags.
use Rattle.std.proofs.Common.{◌≡◌, ◌<◌, ◌+◌, ◌⊎◌, ℕ, zero, suc, Bool, true, List, [], ◌∷◌, ◌++◌, length, set, get_or, Some, refl, sym, ap, inl, inr, arith}
use Rattle.ar_base.specs.Lists.{Stands, IsOneOf}
use Rattle.ar_base.proofs.Standing.{stands_split, stands_left, stands_next}
use Rattle.way_flags.specs.Parts.{flag_at}

-- what was set is set
pub flag_same : (flags : List Bool) (n : ℕ) (b : Bool) → n < length flags → flag_at (set flags n b) n ≡ b
flag_same [] n b h = absurd (omega (arith, h))
flag_same (f ∷ flags) zero b h = refl
flag_same (f ∷ flags) (suc n) b h = flag_same flags n b (omega (arith, h))

pub flag_kept : (flags : List Bool) (n m : ℕ) → flag_at flags m ≡ true → flag_at (set flags n true) m ≡ true
flag_kept [] zero m h = h
flag_kept [] (suc n) m h = h
flag_kept (f ∷ flags) zero zero h = refl
flag_kept (f ∷ flags) zero (suc m) h = h
flag_kept (f ∷ flags) (suc n) zero h = h
flag_kept (f ∷ flags) (suc n) (suc m) h = flag_kept flags n m h

-- any other flag is as it was
pub flag_other : (flags : List Bool) (n m : ℕ) (b : Bool) → (m ≡ n → ⊥) → flag_at (set flags n b) m ≡ flag_at flags m
flag_other [] zero m b h = refl
flag_other [] (suc n) m b h = refl
flag_other (f ∷ flags) zero zero b h = absurd (h refl)
flag_other (f ∷ flags) zero (suc m) b h = refl
flag_other (f ∷ flags) (suc n) zero b h = refl
flag_other (f ∷ flags) (suc n) (suc m) b h = flag_other flags n m b (λ e. h (ap suc e))

pub flag_from : (flags : List Bool) (n m : ℕ) → flag_at (set flags n true) m ≡ true → (flag_at flags m ≡ true) ⊎ (m ≡ n)
flag_from [] zero m h = inl h
flag_from [] (suc n) m h = inl h
flag_from (f ∷ flags) zero zero h = inr refl
flag_from (f ∷ flags) zero (suc m) h = inl h
flag_from (f ∷ flags) (suc n) zero h = inl h
flag_from (f ∷ flags) (suc n) (suc m) h = elim (flag_from flags n m h) [ inl a ↦ inl a | inr e ↦ inr (ap suc e) ]

-- a flag that is set stands in the list
pub flag_within : (flags : List Bool) (n : ℕ) → flag_at flags n ≡ true → n < length flags
flag_within [] n h = absurd (cc h)
flag_within (f ∷ flags) zero h = omega arith
flag_within (f ∷ flags) (suc n) h = let k = flag_within flags n h in omega (arith, k)

module _ {A : Type 0} where
  -- what an index read stands there
  pub read_stands : (xs : List A) (n : ℕ) (a : A) → n < length xs → a ≡ get_or xs n a → Stands xs n a
  read_stands [] n a h e = absurd (omega (arith, h))
  read_stands (x ∷ xs) zero a h e = ap Some (sym e)
  read_stands (x ∷ xs) (suc n) a h e = read_stands xs n a (omega (arith, h)) e

  -- the first items, with one more
  pub one_more : (xs : List A) (a : A) (n : ℕ) (b : A) → Stands (xs ++ a ∷ []) n b
      → (Stands xs n b) ⊎ ((n ≡ length xs) × (b ≡ a))
  one_more xs a n b h = elim (stands_split xs (a ∷ []) n b h) [ inl k ↦ inl k | inr k ↦ inr (last k.0 k.1 k.2) ]
    where
      last : (k : ℕ) → n ≡ length xs + k → Stands (a ∷ []) k b → (n ≡ length xs) × (b ≡ a)
      last zero e s = (omega (arith, e), cc)
      last (suc zero) e s = cc
      last (suc (suc k)) e s = cc

  pub one_of_more : (xs : List A) (a : A) (b : A) → IsOneOf (xs ++ a ∷ []) b → (IsOneOf xs b) ⊎ (b ≡ a)
  one_of_more xs a b h = elim (one_more xs a h.place b h.stands)
      [ inl k ↦ inl (record { place = h.place; stands = k }) | inr k ↦ inr k.1 ]

  pub one_kept : (xs : List A) (a : A) (b : A) → IsOneOf xs b → IsOneOf (xs ++ a ∷ []) b
  one_kept xs a b h = record { place = h.place; stands = stands_left xs (a ∷ []) h.place b h.stands }

  pub one_last : (xs : List A) (a : A) → IsOneOf (xs ++ a ∷ []) a
  one_last xs a = record { place = length xs; stands = stands_next xs a [] }
