-- Places in lists that change, and ascending lists that grow.
use Rattle.std.proofs.Common.{◌≡◌, ◌<◌, ◌⊎◌, inl, inr, ℕ, zero, suc, List, [], ◌∷◌, ◌++◌, length, set, get_or, take, drop, refl, ap, ◌∙◌, arith}
use Rattle.ar_base.specs.Lists.{Stands, IsOneOf}
use Rattle.ar_base.specs.Sets.{Ascends}
use Rattle.ar_base.proofs.Standing.{stands_get, stands_none, one_first, one_split, one_left, one_right, only_item}

module _ {A : Type 0} where
  pub set_here : (xs : List A) (k : ℕ) (x : A) → k < length xs → Stands (set xs k x) k x
  set_here [] k x h = absurd (omega arith)
  set_here (y ∷ xs) zero x h = refl
  set_here (y ∷ xs) (suc k) x h = set_here xs k x (omega arith)

  pub set_other : (xs : List A) (k n : ℕ) (x y : A) → (n ≡ k → ⊥) → Stands xs n y → Stands (set xs k x) n y
  set_other [] k n x y d s = s
  set_other (z ∷ xs) zero zero x y d s = absurd (d refl)
  set_other (z ∷ xs) zero (suc n) x y d s = s
  set_other (z ∷ xs) (suc k) zero x y d s = s
  set_other (z ∷ xs) (suc k) (suc n) x y d s = set_other xs k n x y (λ e. d (ap suc e)) s

  pub set_back : (xs : List A) (k n : ℕ) (x y : A) → Stands (set xs k x) n y
      → ((n ≡ k) × (x ≡ y)) ⊎ ((n ≡ k → ⊥) × Stands xs n y)
  set_back [] k n x y s = absurd (stands_none n y s)
  set_back (z ∷ xs) zero zero x y s = inl (refl, cc)
  set_back (z ∷ xs) zero (suc n) x y s = inr (λ e. omega (arith, e), s)
  set_back (z ∷ xs) (suc k) zero x y s = inr (λ e. omega (arith, e), s)
  set_back (z ∷ xs) (suc k) (suc n) x y s =
      elim (set_back xs k n x y s) [ inl e ↦ inl (ap suc e.0, e.1) | inr h ↦ inr (λ e. h.0 (omega (arith, e)), h.1) ]

  -- what stands among the first items stands there in the whole
  pub take_stands : (i : ℕ) (xs : List A) (j : ℕ) (a : A) → Stands (take i xs) j a → (j < i) × Stands xs j a
  take_stands zero xs j a s = absurd (stands_none j a s)
  take_stands (suc i) [] j a s = absurd (stands_none j a s)
  take_stands (suc i) (x ∷ xs) zero a s = (omega arith, s)
  take_stands (suc i) (x ∷ xs) (suc j) a s = let r = take_stands i xs j a s in (omega (arith, r.0), r.1)

  pub pushed_cases : (xs : List A) (x y : A) → IsOneOf (xs ++ x ∷ []) y → IsOneOf xs y ⊎ (x ≡ y)
  pushed_cases xs x y o = elim (one_split xs (x ∷ []) y o) [ inl p ↦ inl p | inr p ↦ inr (only_item x y p) ]

  pub pushed_old : (xs : List A) (x y : A) → IsOneOf xs y → IsOneOf (xs ++ x ∷ []) y
  pushed_old xs x y o = one_left xs (x ∷ []) y o

  pub pushed_last : (xs : List A) (x : A) → IsOneOf (xs ++ x ∷ []) x
  pushed_last xs x = one_right xs (x ∷ []) x (one_first x [])

last_only : (k : ℕ) (x a : ℕ) → Stands (x ∷ []) k a → (k ≡ 0) × (x ≡ a)
last_only zero x a s = (refl, cc)
last_only (suc k) x a s = absurd (stands_none k a s)

pub ascends_none : Ascends []
ascends_none = record { ascends = λ j k a b l s r. absurd (stands_none j a s) }

-- a list that was written back over another one as long
front_of : {A : Type 0} (xs zs : List A) → take (length xs) (xs ++ zs) ≡ xs
front_of [] [] = refl
front_of [] (z ∷ zs) = refl
front_of (x ∷ xs) zs = ap (λ ys. x ∷ ys) (front_of xs zs)

pub written : {A : Type 0} (xs ys : List A) (n : ℕ) → length xs ≡ length ys → n ≡ length ys
    → take n (xs ++ drop (length xs) ys) ≡ xs
written xs ys n e f =
    let i : n ≡ length xs = omega (arith, e, f) in
    ap (λ z. take z (xs ++ drop (length xs) ys)) i ∙ front_of xs (drop (length xs) ys)

-- an item among the first ones of an ascending list is less than the next
pub before_next : (xs : List ℕ) (i : ℕ) → Ascends xs → i < length xs → (n : ℕ) → IsOneOf (take i xs) n
    → n < get_or xs i 0
before_next xs i h l n o =
    let s = take_stands i xs o.place n o.stands in
    h.ascends o.place i n (get_or xs i 0) s.0 s.1 (stands_get xs i 0 l)
