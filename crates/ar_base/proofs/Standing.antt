-- Lemmas on places in lists.
use Rattle.std.proofs.Common.{◌≡◌, ℕ, zero, suc, ◌+◌, ◌<◌, ◌⊎◌, List, [], ◌∷◌, ◌++◌, map, length, get_or, Contains, refl, sym, ap, subst, inl, inr, arith}
use Rattle.std.proofs.lemmas.Option.{slice_get-get_or}
use Rattle.ar_base.specs.Lists.{Stands, IsOneOf, IsFirst, HasNo, AreDifferent, Along, none, one_and}

module _ {A : Type 0} where
  -- what stands in a list stands at one item
  pub stands_one : (xs : List A) (n : ℕ) (a b : A) → Stands xs n a → Stands xs n b → a ≡ b
  stands_one xs n a b p q = cc

  -- a place is below the length
  pub stands_within : (xs : List A) (n : ℕ) (a : A) → Stands xs n a → n < length xs
  stands_within [] zero a p = cc
  stands_within [] (suc n) a p = cc
  stands_within (x ∷ xs) zero a p = omega arith
  stands_within (x ∷ xs) (suc n) a p = let h = stands_within xs n a p in omega arith

  -- below the length something stands
  pub stands_some : (xs : List A) (n : ℕ) → n < length xs → (a : A) × Stands xs n a
  stands_some [] n h = absurd (omega arith)
  stands_some (x ∷ xs) zero h = (x, refl)
  stands_some (x ∷ xs) (suc n) h = stands_some xs n (omega arith)

  -- what stands in the front stands there in the whole
  pub stands_left : (xs ys : List A) (n : ℕ) (a : A) → Stands xs n a → Stands (xs ++ ys) n a
  stands_left [] ys zero a p = cc
  stands_left [] ys (suc n) a p = cc
  stands_left (x ∷ xs) ys zero a p = p
  stands_left (x ∷ xs) ys (suc n) a p = stands_left xs ys n a p

  -- what stands in the rest stands that much later in the whole
  pub stands_right : (xs ys : List A) (k n : ℕ) (a : A) → n ≡ length xs + k → Stands ys k a → Stands (xs ++ ys) n a
  stands_right [] ys k n a e p = let same : n ≡ k = omega arith in subst (λ (m : ℕ). Stands ys m a) (sym same) p
  stands_right (x ∷ xs) ys k zero a e p = absurd (omega arith)
  stands_right (x ∷ xs) ys k (suc n) a e p = stands_right xs ys k n a (omega arith) p

  -- what stands in the whole stands in the front or in the rest
  pub stands_split : (xs ys : List A) (n : ℕ) (a : A) → Stands (xs ++ ys) n a
      → Stands xs n a ⊎ ((k : ℕ) × (n ≡ length xs + k) × Stands ys k a)
  stands_split [] ys n a p = inr (n, omega arith, p)
  stands_split (x ∷ xs) ys zero a p = inl p
  stands_split (x ∷ xs) ys (suc n) a p =
      elim (stands_split xs ys n a p) [ inl h ↦ inl h | inr h ↦ inr (h.0, omega (arith, h.1), h.2) ]

  -- the item after the front stands at the front's length
  pub stands_next : (xs : List A) (a : A) (ys : List A) → Stands (xs ++ a ∷ ys) (length xs) a
  stands_next xs a ys = stands_right xs (a ∷ ys) 0 (length xs) a (omega arith) refl

  -- in a list of one item nothing else stands, and nowhere but at its head
  pub stands_alone : (a : A) (n : ℕ) (x : A) → Stands (a ∷ []) n x → (n ≡ 0) × (x ≡ a)
  stands_alone a zero x p = (refl, cc)
  stands_alone a (suc zero) x p = cc
  stands_alone a (suc (suc n)) x p = cc

  -- a new item keeps the items different
  pub different_more : (xs : List A) (a : A) → AreDifferent xs → HasNo xs (λ x. x ≡ a) → AreDifferent (xs ++ a ∷ [])
  different_more xs a d lacks = record
      { one = λ m n x p q. both m n x (stands_split xs (a ∷ []) m x p) (stands_split xs (a ∷ []) n x q) }
    where
      both : (m n : ℕ) (x : A) → Stands xs m x ⊎ ((k : ℕ) × (m ≡ length xs + k) × Stands (a ∷ []) k x)
          → Stands xs n x ⊎ ((k : ℕ) × (n ≡ length xs + k) × Stands (a ∷ []) k x) → m ≡ n
      both m n x (inl p) (inl q) = d.one m n x p q
      both m n x (inl p) (inr q) = absurd (lacks.has_not m x p (stands_alone a q.0 x q.2).1)
      both m n x (inr p) (inl q) = absurd (lacks.has_not n x q (stands_alone a p.0 x p.2).1)
      both m n x (inr p) (inr q) = let e = (stands_alone a p.0 x p.2).0 in let f = (stands_alone a q.0 x q.2).0 in omega (arith, p.1, q.1)

  -- no item stands in the empty list
  pub stands_none : (n : ℕ) (a : A) → Stands [] n a → ⊥
  stands_none zero a p = cc
  stands_none (suc n) a p = cc

module _ {A B : Type 0} (f : A → B) where
  -- what stands in a list stands in its image
  pub stands_map : (xs : List A) (n : ℕ) (a : A) → Stands xs n a → Stands (map f xs) n (f a)
  stands_map [] zero a p = cc
  stands_map [] (suc n) a p = cc
  stands_map (x ∷ xs) zero a p = cc
  stands_map (x ∷ xs) (suc n) a p = stands_map xs n a p

  -- what stands in an image is an image
  pub stands_map_back : (xs : List A) (n : ℕ) (b : B) → Stands (map f xs) n b → (a : A) × Stands xs n a × (f a ≡ b)
  stands_map_back [] n b p = absurd (stands_none n b p)
  stands_map_back (x ∷ xs) zero b p = (x, refl, cc)
  stands_map_back (x ∷ xs) (suc n) b p = stands_map_back xs n b p

module _ {A : Type 0} where
  -- what stands at a place below the length is read there
  pub stands_get : (xs : List A) (n : ℕ) (d : A) → n < length xs → Stands xs n (get_or xs n d)
  stands_get xs n d h = slice_get-get_or xs n d h

  -- in a list where it stands, an item is one
  pub one_here : (xs : List A) (n : ℕ) (a : A) → Stands xs n a → IsOneOf xs a
  one_here xs n a p = record { place = n; stands = p }

  -- nothing is one of an empty list
  pub one_none : (a : A) → IsOneOf [] a → ⊥
  one_none a h = stands_none h.place a h.stands

  -- an item is the first or one of the rest
  pub one_cases : (x : A) (xs : List A) (a : A) → IsOneOf (x ∷ xs) a → (x ≡ a) ⊎ IsOneOf xs a
  one_cases x xs a h = by h.place h.stands
    where
      by : (n : ℕ) → Stands (x ∷ xs) n a → (x ≡ a) ⊎ IsOneOf xs a
      by zero p = inl cc
      by (suc n) p = inr (one_here xs n a p)

  -- the first is one
  pub one_first : (x : A) (xs : List A) → IsOneOf (x ∷ xs) x
  one_first x xs = one_here (x ∷ xs) 0 x refl

  -- one of the rest is one of the whole
  pub one_rest : (x : A) (xs : List A) (a : A) → IsOneOf xs a → IsOneOf (x ∷ xs) a
  one_rest x xs a h = one_here (x ∷ xs) (suc h.place) a h.stands

  -- one of two joined lists is one of the first or one of the second
  pub one_split : (xs ys : List A) (a : A) → IsOneOf (xs ++ ys) a → IsOneOf xs a ⊎ IsOneOf ys a
  one_split xs ys a h = elim (stands_split xs ys h.place a h.stands)
      [ inl p ↦ inl (one_here xs h.place a p) | inr p ↦ inr (one_here ys p.0 a p.2) ]

  -- one of the first is one of the joined
  pub one_left : (xs ys : List A) (a : A) → IsOneOf xs a → IsOneOf (xs ++ ys) a
  one_left xs ys a h = one_here (xs ++ ys) h.place a (stands_left xs ys h.place a h.stands)

  -- one of the second is one of the joined
  pub one_right : (xs ys : List A) (a : A) → IsOneOf ys a → IsOneOf (xs ++ ys) a
  one_right xs ys a h = one_here (xs ++ ys) (length xs + h.place) a
      (stands_right xs ys h.place (length xs + h.place) a refl h.stands)

  -- what the standard library's `Contains` says and what `IsOneOf` says
  pub one_contains : (xs : List A) (a : A) → Contains xs a → IsOneOf xs a
  one_contains xs a h = one_here xs h.0 a (subst (λ (b : A). Stands xs h.0 b) h.2 (stands_get xs h.0 a h.1))

  pub contains_one : (xs : List A) (a : A) → IsOneOf xs a → Contains xs a
  contains_one xs a h =
      let within = stands_within xs h.place a h.stands in
      (h.place, within, stands_one xs h.place (get_or xs h.place a) a (stands_get xs h.place a within) h.stands)

  -- it is decided by a test whether some item has P, and the first has it or none has
  pub first_or_none : (P : A → Type 0) → ((a : A) → P a ⊎ (P a → ⊥)) → (xs : List A)
      → ((n : ℕ) × IsFirst xs P n) ⊎ HasNo xs P
  first_or_none P test [] = inr (record { has_not = λ k a p h. stands_none k a p })
  first_or_none P test (x ∷ xs) = by (test x) (first_or_none P test xs)
    where
      first_here : P x → IsFirst (x ∷ xs) P 0
      first_here h = record { item = x; stands = refl; has = h; before = λ k a l p q. absurd (omega (arith, l)) }

      next_before : (n : ℕ) → (P x → ⊥) → IsFirst xs P n → (k : ℕ) (a : A) → k < suc n → Stands (x ∷ xs) k a → P a → ⊥
      next_before n lacks f zero a l p q = lacks (subst P (sym (stands_one (x ∷ xs) 0 x a refl p)) q)
      next_before n lacks f (suc k) a l p q = f.before k a (omega (arith, l)) p q

      none_here : (P x → ⊥) → HasNo xs P → (k : ℕ) (a : A) → Stands (x ∷ xs) k a → P a → ⊥
      none_here lacks f zero a p q = lacks (subst P (sym (stands_one (x ∷ xs) 0 x a refl p)) q)
      none_here lacks f (suc k) a p q = f.has_not k a p q

      by : P x ⊎ (P x → ⊥) → ((n : ℕ) × IsFirst xs P n) ⊎ HasNo xs P
          → ((n : ℕ) × IsFirst (x ∷ xs) P n) ⊎ HasNo (x ∷ xs) P
      by (inl h) rest = inl (0, first_here h)
      by (inr lacks) (inl f) = inl (
        suc f.0,
        record
            { item = f.1.item; stands = f.1.stands; has = f.1.has; before = next_before f.0 lacks f.1 },
      )
      by (inr lacks) (inr f) = inr (record { has_not = none_here lacks f })

module _ {A B : Type 0} {R : A → B → Type 0} where
  -- lists that are related item by item: what stands in the first is related to what stands there in the second
  pub along_on : (xs : List A) (ys : List B) → Along R xs ys → (n : ℕ) (a : A) → Stands xs n a
      → (b : B) × Stands ys n b × R a b
  along_on [] [] none n a p = absurd (stands_none n a p)
  along_on [] (y ∷ ys) h n a p = elim h [ ]
  along_on (x ∷ xs) [] h n a p = elim h [ ]
  along_on (x ∷ xs) (y ∷ ys) (one_and r rest) zero a p =
      (y, refl, subst (λ (z : A). R z y) (stands_one (x ∷ xs) 0 x a refl p) r)
  along_on (x ∷ xs) (y ∷ ys) (one_and r rest) (suc n) a p = along_on xs ys rest n a p

  -- and the other way round
  pub along_back : (xs : List A) (ys : List B) → Along R xs ys → (n : ℕ) (b : B) → Stands ys n b
      → (a : A) × Stands xs n a × R a b
  along_back [] [] none n b p = absurd (stands_none n b p)
  along_back [] (y ∷ ys) h n b p = elim h [ ]
  along_back (x ∷ xs) [] h n b p = elim h [ ]
  along_back (x ∷ xs) (y ∷ ys) (one_and r rest) zero b p =
      (x, refl, subst (λ (z : B). R x z) (stands_one (y ∷ ys) 0 y b refl p) r)
  along_back (x ∷ xs) (y ∷ ys) (one_and r rest) (suc n) b p = along_back xs ys rest n b p

  -- they are equally long
  pub along_length : (xs : List A) (ys : List B) → Along R xs ys → length xs ≡ length ys
  along_length [] [] none = refl
  along_length [] (y ∷ ys) h = elim h [ ]
  along_length (x ∷ xs) [] h = elim h [ ]
  along_length (x ∷ xs) (y ∷ ys) (one_and r rest) = ap suc (along_length xs ys rest)

-- below the next place is below this one or at it
pub at_most : (k i : ℕ) → k < i + 1 → (k < i) ⊎ (k ≡ i)
at_most zero zero h = inr refl
at_most zero (suc i) h = inl (omega arith)
at_most (suc k) zero h = absurd (omega arith)
at_most (suc k) (suc i) h = elim (at_most k i (omega arith)) [ inl a ↦ inl (omega arith) | inr a ↦ inr (ap suc a) ]

-- the item that was read below the length stands there
pub stands_item : {A : Type 0} (xs : List A) (i : ℕ) (a : A) → i < length xs → a ≡ get_or xs i a → Stands xs i a
stands_item xs i a h is = subst (λ z. Stands xs i z) (sym is) (stands_get xs i a h)

-- the one item of a list
pub only_item : {A : Type 0} (x y : A) → IsOneOf (x ∷ []) y → x ≡ y
only_item {A} x y o = go o.place o.stands
  where
    go : (k : ℕ) → Stands (x ∷ []) k y → x ≡ y
    go zero s = cc
    go (suc k) s = absurd (stands_none k y s)
