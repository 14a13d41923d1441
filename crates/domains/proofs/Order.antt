-- The order of values is total, and lists that ascend under it.
use Rattle.std.proofs.Common.{◌≡◌, ℕ, ℤ, ◌<◌, ◌≤◌, true, false, cond, nat_lt, int_lt, List, [], ◌∷◌, length, Contains, get_or, zero, suc, refl, sym, ap, ◌∙◌, subst, inl, inr, arith}
use Rattle.std.proofs.lemmas.Int.{ints}
use Rattle.std.proofs.lemmas.Bool.Decides.{nat_tests}
use Rattle.domains.specs.Values.{rank_of, number_in_rank, is_before, IsAscending}
use Rattle.domains.specs.declared.Value.{Value}
use Rattle.domains.specs.declared.Value.TheVariants.{Truth, Whole, Symbol}
use Rattle.domains.proofs.Members.{contains-head, contains-cons, contains-cases, nothing-in, pairs-tail, pairs-head}

before_trans : (r s t : ℕ) (a b c : ℤ) → cond (nat_lt r s) true (cond (nat_lt s r) false (int_lt a b)) ≡ true
    → cond (nat_lt s t) true (cond (nat_lt t s) false (int_lt b c)) ≡ true
    → cond (nat_lt r t) true (cond (nat_lt t r) false (int_lt a c)) ≡ true
before_trans r s t a b c h k = grind (arith, ints, nat_tests)

pub is_before-trans : (x y z : Value) → is_before x y ≡ true → is_before y z ≡ true → is_before x z ≡ true
is_before-trans x y z h k =
    before_trans (rank_of x) (rank_of y) (rank_of z) (number_in_rank x) (number_in_rank y) (number_in_rank z) h k

before_self : (r : ℕ) (a : ℤ) → cond (nat_lt r r) true (cond (nat_lt r r) false (int_lt a a)) ≡ false
before_self r a = grind (arith, ints, nat_tests)

pub is_before-self : (x : Value) → is_before x x ≡ false
is_before-self x = before_self (rank_of x) (number_in_rank x)

before_rank : (r s : ℕ) (a b : ℤ) → cond (nat_lt r s) true (cond (nat_lt s r) false (int_lt a b)) ≡ false
    → cond (nat_lt s r) true (cond (nat_lt r s) false (int_lt b a)) ≡ false → r ≡ s
before_rank r s a b h k = grind (arith, ints, nat_tests)

before_number : (r s : ℕ) (a b : ℤ) → cond (nat_lt r s) true (cond (nat_lt s r) false (int_lt a b)) ≡ false
    → cond (nat_lt s r) true (cond (nat_lt r s) false (int_lt b a)) ≡ false → a ≡ b
before_number r s a b h k = grind (arith, ints, nat_tests)

same_value : (x y : Value) → rank_of x ≡ rank_of y → number_in_rank x ≡ number_in_rank y → x ≡ y
same_value (Truth true) (Truth true) r n = refl
same_value (Truth true) (Truth false) r n = cc
same_value (Truth false) (Truth true) r n = cc
same_value (Truth false) (Truth false) r n = refl
same_value (Truth a) (Whole b) r n = cc
same_value (Truth a) (Symbol b) r n = cc
same_value (Whole a) (Truth b) r n = cc
same_value (Whole a) (Whole b) r n = ap Whole n
same_value (Whole a) (Symbol b) r n = cc
same_value (Symbol a) (Truth b) r n = cc
same_value (Symbol a) (Whole b) r n = cc
same_value (Symbol a) (Symbol b) r n = cc

-- values of which neither comes before the other are one
pub same-from_neither : (x y : Value) → is_before x y ≡ false → is_before y x ≡ false → x ≡ y
same-from_neither x y h k =
    same_value x y (before_rank (rank_of x) (rank_of y) (number_in_rank x) (number_in_rank y) h k)
    (before_number (rank_of x) (rank_of y) (number_in_rank x) (number_in_rank y) h k)

-- a value does not come before itself
pub not_before : (x y : Value) → is_before x y ≡ true → x ≡ y → ⊥
not_before x y h e =
    let P : Value → Type 0 = λ z. is_before x z ≡ true in
    let k : is_before x x ≡ true = subst P (sym e) h in
    let l = is_before-self x in
    cc

-- each value comes before all later ones, by recursion
abbrev pub Ascends : List Value → Type 0
Ascends [] = Unit {0}
Ascends (x ∷ xs) = ((y : Value) → Contains xs y → is_before x y ≡ true) × Ascends xs

pub ascends-from : (xs : List Value) → IsAscending xs → Ascends xs
ascends-from [] a = tt
ascends-from (x ∷ xs) a =
    (pairs-head (λ x y. is_before x y ≡ true) x xs a, ascends-from xs (pairs-tail (λ x y. is_before x y ≡ true) x xs a))

get_in : (xs : List Value) (k : ℕ) (d : Value) → k < length xs → Contains xs (get_or xs k d)
get_in [] k d h = absurd (omega (arith, h))
get_in (x ∷ xs) zero d h = contains-head x xs
get_in (x ∷ xs) (suc k) d h = contains-cons x (get_or xs k d) xs (get_in xs k d (omega (arith, h)))

pub ascending-from : (xs : List Value) → Ascends xs → IsAscending xs
ascending-from [] a = λ i j d h k. absurd (omega (arith, k))
ascending-from (x ∷ xs) a = pairs (a.0) (ascending-from xs a.1) where
  pairs : ((y : Value) → Contains xs y → is_before x y ≡ true) → IsAscending xs → IsAscending (x ∷ xs)
  pairs f p i zero d h k = absurd (omega (arith, h))
  pairs f p zero (suc j) d h k = f (get_or xs j d) (get_in xs j d (omega (arith, k)))
  pairs f p (suc i) (suc j) d h k = p i j d (omega (arith, h)) (omega (arith, k))

-- a list that ascends and is within another is no longer
pub ascends-length : (xs ys : List Value) → Ascends xs → Ascends ys → ((d : Value) → Contains xs d → Contains ys d)
    → length xs ≤ length ys
ascends-length [] ys a b f = omega arith
ascends-length (x ∷ xs) [] a b f = absurd (nothing-in x (f x (contains-head x xs)))
ascends-length (x ∷ xs) (y ∷ ys) a b f =
    elim (contains-cases y x ys (f x (contains-head x xs))) [
      | inl e ↦
          let k = ascends-length xs ys a.1 b.1 (λ d m. elim (contains-cases y d ys (f d (contains-cons x d xs m))) [
            | inl i ↦ absurd (not_before x d (a.0 d m) (sym e ∙ i))
            | inr n ↦ n
          ]) in
          omega arith
      | inr n ↦
          let k = ascends-length (x ∷ xs) ys a b.1 (λ d m. elim (contains-cases y d ys (f d m)) [
            | inl i ↦ absurd (elim (contains-cases x d xs m) [
              | inl j ↦ not_before y x (b.0 x n) (i ∙ sym j)
              | inr l ↦ not_before y d (is_before-trans y x d (b.0 x n) (a.0 d l)) i
            ])
            | inr l ↦ l
          ]) in
          omega arith
    ]

-- lists that ascend and have the same items are one
pub ascends-same : (xs ys : List Value) → Ascends xs → Ascends ys → ((d : Value) → Contains xs d → Contains ys d)
    → ((d : Value) → Contains ys d → Contains xs d) → xs ≡ ys
ascends-same [] [] a b f g = refl
ascends-same [] (y ∷ ys) a b f g = absurd (nothing-in y (g y (contains-head y ys)))
ascends-same (x ∷ xs) [] a b f g = absurd (nothing-in x (f x (contains-head x xs)))
ascends-same (x ∷ xs) (y ∷ ys) a b f g =
    let e : x ≡ y = elim (contains-cases y x ys (f x (contains-head x xs))) [
      | inl i ↦ sym i
      | inr n ↦ elim (contains-cases x y xs (g y (contains-head y ys))) [
        | inl i ↦ i
        | inr m ↦ absurd (not_before x x (is_before-trans x y x (a.0 y m) (b.0 x n)) refl)
      ]
    ] in
    let rest = ascends-same xs ys a.1 b.1
    (λ d m. elim (contains-cases y d ys (f d (contains-cons x d xs m)))
    [ inl i ↦ absurd (not_before x d (a.0 d m) (e ∙ i)) | inr n ↦ n ])
    (λ d m. elim (contains-cases x d xs (g d (contains-cons y d ys m)))
    [ inl i ↦ absurd (not_before y d (b.0 d m) (sym e ∙ i)) | inr n ↦ n ]) in
    cc
