-- Lists that grow by an item, and what is left of them.
use Rattle.std.proofs.Common.{◌≡◌, ℕ, zero, suc, ◌+◌, ◌<◌, ◌≤◌, ◌⊎◌, inl, inr, Bool, true, false, List, [], ◌∷◌, ◌++◌, length, take, drop, set, replicate, get_or, refl, sym, ap, ◌∙◌, subst, arith}
use Rattle.std.proofs.lemmas.List.{take_more, at_drop_more, at_drop_all}
use Rattle.std.specs.List.{AllByRecursion}
use Rattle.ar_base.specs.Lists.{Stands, IsOneOf, AreDifferent, Along, none, one_and}
use Rattle.ar_base.proofs.Standing.{stands_one, stands_none, stands_next, stands_split, only_item, at_most, one_here}

-- the items up to one more, where it was read
pub take_item : {A : Type 0} (xs : List A) (i : ℕ) (x : A) → i < length xs → x ≡ get_or xs i x
    → take (i + 1) xs ≡ take i xs ++ x ∷ []
take_item xs i x h e = take_more xs i x h ∙ ap (λ z. take i xs ++ z ∷ []) (sym e)

-- the first item of what is left of a list
pub next_left : {A : Type 0} (xs : List A) (i : ℕ) (x : A) → i < length xs → x ≡ get_or xs i x
    → drop i xs ≡ x ∷ drop (i + 1) xs
next_left {A} xs i x h is = at_drop_more (λ (z : List A). z) xs i x h ∙ ap (λ (z : A). z ∷ drop (i + 1) xs) (sym is)

-- past the end nothing is left
pub none_left : {A : Type 0} (xs : List A) (i : ℕ) → length xs ≤ i → drop i xs ≡ []
none_left {A} xs i h = at_drop_all (λ (z : List A). z) xs i h

-- the last item is one of the items
pub one_last : {A : Type 0} (xs : List A) (x : A) → IsOneOf (xs ++ x ∷ []) x
one_last xs x = record { place = length xs; stands = stands_next xs x [] }

-- an item is one of those before the last, or the last
pub last_cases : {A : Type 0} (xs : List A) (x y : A) → IsOneOf (xs ++ x ∷ []) y → IsOneOf xs y ⊎ (x ≡ y)
last_cases xs x y o = elim (stands_split xs (x ∷ []) o.place y o.stands) [
  | inl s ↦ inl (record { place = o.place; stands = s })
  | inr r ↦ inr (only_item x y (record { place = r.0; stands = r.2 }))
]

-- lists that are one have one last item
pub last_one : {A : Type 0} (xs ys : List A) (a b : A) → xs ++ a ∷ [] ≡ ys ++ b ∷ [] → (xs ≡ ys) × (a ≡ b)
last_one [] [] a b e = (refl, cc)
last_one [] (y ∷ []) a b e = cc
last_one [] (y ∷ z ∷ ys) a b e = cc
last_one (x ∷ []) [] a b e = cc
last_one (x ∷ z ∷ xs) [] a b e = cc
last_one (x ∷ xs) (y ∷ ys) a b e =
    let r = last_one xs ys a b (cc) in
    let i = r.0 in
    let j : x ≡ y = cc in
    (cc, r.1)

-- the one item of a list
pub single : {A : Type 0} (x y : A) (k : ℕ) → Stands (x ∷ []) k y → (k ≡ 0) × (x ≡ y)
single x y zero s = (refl, cc)
single x y (suc k) s = absurd (stands_none k y s)

-- what was written stands where it was written
pub stands_set : {A : Type 0} (xs : List A) (i : ℕ) (v : A) → i < length xs → Stands (set xs i v) i v
stands_set [] i v l = absurd (omega (arith, l))
stands_set (x ∷ xs) zero v l = refl
stands_set (x ∷ xs) (suc i) v l = stands_set xs i v (omega (arith, l))

-- where no mark is set, none stands
pub none_marked : (count e : ℕ) → Stands (replicate count false) e true → ⊥
none_marked zero e p = stands_none e true p
none_marked (suc count) zero p = cc
none_marked (suc count) (suc e) p = none_marked count e p

-- what holds of all holds of what stands
pub all_stand : (P : ℕ → Type 0) (xs : List ℕ) (k r : ℕ) → AllByRecursion P xs → Stands xs k r → P r
all_stand P [] k r a s = absurd (stands_none k r s)
all_stand P (x ∷ xs) zero r a s = let e : x ≡ r = cc in subst P e a.0
all_stand P (x ∷ xs) (suc k) r a s = all_stand P xs k r a.1 s

-- one item more that has not P
pub before_more : {A : Type 0} (xs : List A) (i : ℕ) (a : A) (P : ℕ → A → Type 0)
    → ((k : ℕ) (x : A) → k < i → Stands xs k x → P k x → ⊥) → Stands xs i a → (P i a → ⊥)
    → (k : ℕ) (x : A) → k < i + 1 → Stands xs k x → P k x → ⊥
before_more {A} xs i a P before st n k x l s h = go (at_most k i l)
  where
    go : (k < i) ⊎ (k ≡ i) → ⊥
    go (inl j) = before k x j s h
    go (inr j) =
        let same : x ≡ a = stands_one xs i x a (subst (λ (z : ℕ). Stands xs z x) j s) st in
        n (subst (λ (z : A). P i z) same (subst (λ (z : ℕ). P z x) j h))

-- two lists of different items with none in common, one behind the other
pub different_both : {A : Type 0} (xs ys : List A) → AreDifferent xs → AreDifferent ys
    → ((x : A) → IsOneOf xs x → IsOneOf ys x → ⊥)
    → AreDifferent (xs ++ ys)
different_both {A} xs ys a b d = record {
  one =
      λ m n x h k. by m n x (stands_split xs ys m x h) (stands_split xs ys n x k);
}
  where
    by : (m n : ℕ) (x : A) → Stands xs m x ⊎ ((k : ℕ) × (m ≡ length xs + k) × Stands ys k x)
        → Stands xs n x ⊎ ((k : ℕ) × (n ≡ length xs + k) × Stands ys k x) → m ≡ n
    by m n x (inl h) (inl k) = a.one m n x h k
    by m n x (inl h) (inr k) = absurd (d x (one_here xs m x h) (one_here ys k.0 x k.2))
    by m n x (inr h) (inl k) = absurd (d x (one_here xs n x k) (one_here ys h.0 x h.2))
    by m n x (inr h) (inr k) = let e : h.0 ≡ k.0 = b.one h.0 k.0 x h.2 k.2 in omega (arith, e, h.1, k.1)

-- lists of one length whose items at each place belong together
pub along_by : {A B : Type 0} (R : A → B → Type 0) (xs : List A) (ys : List B) → length xs ≡ length ys
    → ((n : ℕ) (a : A) (b : B) → Stands xs n a → Stands ys n b → R a b) → Along R xs ys
along_by R [] [] l f = none
along_by R [] (y ∷ ys) l f = absurd (omega (arith, l))
along_by R (x ∷ xs) [] l f = absurd (omega (arith, l))
along_by R (x ∷ xs) (y ∷ ys) l f = one_and (f 0 x y refl refl)
    (along_by R xs ys (omega (arith, l)) (λ n a b p q. f (suc n) a b p q))

-- one item more in both
pub along_push : {A B : Type 0} {R : A → B → Type 0} (xs : List A) (ys : List B) (a : A) (b : B) → Along R xs ys → R a b
    → Along R (xs ++ a ∷ []) (ys ++ b ∷ [])
along_push [] [] a b none r = one_and r none
along_push [] (y ∷ ys) a b h r = elim h [ ]
along_push (x ∷ xs) [] a b h r = elim h [ ]
along_push (x ∷ xs) (y ∷ ys) a b (one_and s rest) r = one_and s (along_push xs ys a b rest r)

-- one list behind the other in both
pub along_append : {A B : Type 0} {R : A → B → Type 0} {xs ys : List A} {us vs : List B} → Along R xs us → Along R ys vs
    → Along R (xs ++ ys) (us ++ vs)
along_append none k = k
along_append (one_and r rest) k = one_and r (along_append rest k)
