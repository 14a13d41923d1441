-- The items of lists.
use Rattle.std.proofs.Common.{slice_get, Some, ◌⊎◌, inl, inr, ◌≡◌, zero, suc, List, [], ◌∷◌, map, Contains, AllPairs, refl, subst, arith}

pub nothing-in : {X : Type 0} (x : X) → Contains [] x → ⊥
nothing-in x (k, h, e) = absurd (omega (arith, h))

pub contains-head : {X : Type 0} (x : X) (xs : List X) → Contains (x ∷ xs) x
contains-head x xs = (zero, omega arith, refl)

pub contains-cons : {X : Type 0} (x s : X) (xs : List X) → Contains xs s → Contains (x ∷ xs) s
contains-cons x s xs (k, h, e) = (suc k, omega (arith, h), e)

pub contains-cases : {X : Type 0} (x s : X) (xs : List X) → Contains (x ∷ xs) s → (x ≡ s) ⊎ Contains xs s
contains-cases x s xs (zero, h, e) = inl e
contains-cases x s xs (suc k, h, e) = inr (k, omega (arith, h), e)

-- what a list with one item has
pub contains-one : {X : Type 0} (x s : X) → Contains (x ∷ []) s → x ≡ s
contains-one x s h = elim (contains-cases x s [] h) [ inl e ↦ e | inr k ↦ absurd (nothing-in s k) ]

-- the first item of a list is in it
pub first-in : {X : Type 0} (xs : List X) (x : X) → slice_get xs 0 ≡ Some x → Contains xs x
first-in [] x e = cc
first-in (y ∷ xs) x e = let i : y ≡ x = cc in (0, omega arith, i)

pub pairs-tail : {X : Type 0} (R : X → X → Type 0) (x : X) (xs : List X) → AllPairs R (x ∷ xs) → AllPairs R xs
pairs-tail R x xs a i j d h k = a (suc i) (suc j) d (omega (arith, h)) (omega (arith, k))

pub pairs-head : {X : Type 0} (R : X → X → Type 0) (x : X) (xs : List X) → AllPairs R (x ∷ xs) → (s : X) → Contains xs s
    → R x s
pairs-head R x xs a s (k, h, e) =
    let P : _ → Type 0 = λ z. R x z in
    subst P e (a zero (suc k) s (omega arith) (omega (arith, h)))

pub contains-map : {X Y : Type 0} (f : X → Y) (x : X) (xs : List X) → Contains xs x → Contains (map f xs) (f x)
contains-map f x [] (k, h, e) = absurd (omega (arith, h))
contains-map f x (a ∷ xs) m =
    elim (contains-cases a x xs m) [
      | inl e ↦ let P : _ → Type 0 = λ z. Contains (map f (a ∷ xs)) (f z) in subst P e (contains-head (f a) (map f xs))
      | inr n ↦ contains-cons (f a) (f x) (map f xs) (contains-map f x xs n)
    ]

pub contains-from_map : {X Y : Type 0} (f : X → Y) (y : Y) (xs : List X) → Contains (map f xs) y
    → (x : X) × Contains xs x × (f x ≡ y)
contains-from_map f y [] (k, h, e) = absurd (omega (arith, h))
contains-from_map f y (a ∷ xs) m =
    elim (contains-cases (f a) y (map f xs) m) [
      | inl e ↦ (a, contains-head a xs, e)
      | inr n ↦ let (x, i, e) = contains-from_map f y xs n in (x, contains-cons a x xs i, e)
    ]
