-- Loops over lists.
use Rattle.std.proofs.Common.{◌≡◌, ℕ, zero, suc, ◌+◌, ◌<◌, List, [], ◌∷◌, ◌++◌, length, map, take, get_or, refl, sym, ◌∙◌, ap, subst, arith}
use Rattle.std.proofs.Common.{inl, inr, ◌⊎◌, set, drop, add-one, drop-cons, ◌-◌, ◌≤◌, length-append}
use Rattle.std.proofs.lemmas.List.{take_more}
use Rattle.ar_base.specs.Lists.{Stands, IsOneOf}
use Rattle.ar_base.proofs.Standing.{stands_one, stands_get, stands_within}
use Rattle.ar_base.proofs.Comparing.{lt_or_same}

module _ {A : Type 0} where
  -- the item of a loop stands at its index
  pub item_stands : (xs : List A) (i : ℕ) (a : A) → i < length xs → a ≡ get_or xs i a → Stands xs i a
  item_stands xs i a h e = subst (λ (b : A). Stands xs i b) (sym e) (stands_get xs i a h)

  -- one item more is taken
  pub take_next : (xs : List A) (i : ℕ) (a : A) → Stands xs i a → take (i + 1) xs ≡ take i xs ++ a ∷ []
  take_next xs i a p =
      let h = stands_within xs i a p in
      take_more xs i a h ∙ ap (λ (b : A). take i xs ++ b ∷ [])
      (stands_one xs i (get_or xs i a) a (stands_get xs i a h) p)

  -- the list after one more item, by the index and the item of a loop
  pub take_item : (xs : List A) (i : ℕ) (a : A) → i < length xs → a ≡ get_or xs i a
      → take (i + 1) xs ≡ take i xs ++ a ∷ []
  take_item xs i a h e = take_next xs i a (item_stands xs i a h e)

module _ {A B : Type 0} (f : A → B) where
  pub map_join : (xs ys : List A) → map f (xs ++ ys) ≡ map f xs ++ map f ys
  map_join [] ys = refl
  map_join (x ∷ xs) ys = ap (λ (zs : List B). f x ∷ zs) (map_join xs ys)

  pub map_next : (xs : List A) (i : ℕ) (a : A) → Stands xs i a → map f (take (i + 1) xs) ≡ map f (take i xs) ++ f a ∷ []
  map_next xs i a p = ap (map f) (take_next xs i a p) ∙ map_join (take i xs) (a ∷ [])

module _ {A : Type 0} (xs : List A) (P : A → Type 0) where
  -- what holds of the items before the index and at it
  pub below_next : (i : ℕ) (a : A) → Stands xs i a → ((k : ℕ) (b : A) → k < i → Stands xs k b → P b) → P a
      → (k : ℕ) (b : A) → k < i + 1 → Stands xs k b → P b
  below_next i a s before here k b l t = elim (lt_or_same k i (omega (arith, l))) [
    | inl m ↦ before k b m t
    | inr e ↦ subst P (stands_one xs i a b s (subst (λ (n : ℕ). Stands xs n b) e t)) here
  ]

module _ {A : Type 0} (xs : List A) (P : ℕ → A → Type 0) where
  pub below_next_at : (i : ℕ) (a : A) → Stands xs i a → ((k : ℕ) (b : A) → k < i → Stands xs k b → P k b) → P i a
      → (k : ℕ) (b : A) → k < i + 1 → Stands xs k b → P k b
  below_next_at i a s before here k b l t = elim (lt_or_same k i (omega (arith, l))) [
    | inl m ↦ before k b m t
    | inr e ↦
        let u = subst (λ (n : ℕ). Stands xs n b) e t in
        let at_i = subst (P i) (stands_one xs i a b s u) here in
        subst (λ (n : ℕ). P n b) (sym e) at_i
  ]

module _ {A : Type 0} where
  -- what stands after one item is written
  pub stands_set : (xs : List A) (i : ℕ) (v : A) (k : ℕ) (a : A) → Stands (set xs i v) k a
      → ((k ≡ i) × (a ≡ v)) ⊎ Stands xs k a
  stands_set [] i v k a s = inr s
  stands_set (x ∷ xs) zero v zero a s = inl (refl, cc)
  stands_set (x ∷ xs) zero v (suc k) a s = inr s
  stands_set (x ∷ xs) (suc i) v zero a s = inr s
  stands_set (x ∷ xs) (suc i) v (suc k) a s =
      elim (stands_set xs i v k a s) [ inl h ↦ inl (ap suc h.0, h.1) | inr h ↦ inr h ]

  pub set_there : (xs : List A) (i : ℕ) (v : A) → i < length xs → Stands (set xs i v) i v
  set_there [] i v l = absurd (omega (arith, l))
  set_there (x ∷ xs) zero v l = refl
  set_there (x ∷ xs) (suc i) v l = set_there xs i v (omega (arith, l))

  pub set_kept : (xs : List A) (i : ℕ) (v : A) (k : ℕ) (a : A) → (k ≡ i → ⊥) → Stands xs k a → Stands (set xs i v) k a
  set_kept [] i v k a n s = s
  set_kept (x ∷ xs) zero v zero a n s = absurd (n refl)
  set_kept (x ∷ xs) zero v (suc k) a n s = s
  set_kept (x ∷ xs) (suc i) v zero a n s = s
  set_kept (x ∷ xs) (suc i) v (suc k) a n s = set_kept xs i v k a (λ e. n (ap suc e)) s

  -- what stands there already, or is written, stands there
  pub set_same : (xs : List A) (i : ℕ) (v : A) (k : ℕ) → Stands xs k v → Stands (set xs i v) k v
  set_same [] i v k s = s
  set_same (x ∷ xs) zero v zero s = refl
  set_same (x ∷ xs) zero v (suc k) s = s
  set_same (x ∷ xs) (suc i) v zero s = s
  set_same (x ∷ xs) (suc i) v (suc k) s = set_same xs i v k s

  -- what stands in a front stands there in the whole, and the other way round
  pub stands_take : (xs : List A) (k n : ℕ) (x : A) → Stands (take k xs) n x → Stands xs n x
  stands_take xs zero zero x p = cc
  stands_take xs zero (suc n) x p = cc
  stands_take [] (suc k) n x p = p
  stands_take (y ∷ xs) (suc k) zero x p = p
  stands_take (y ∷ xs) (suc k) (suc n) x p = stands_take xs k n x p

  pub take_stands : (xs : List A) (k n : ℕ) (x : A) → n < k → Stands xs n x → Stands (take k xs) n x
  take_stands xs zero n x lt p = absurd (omega (arith, lt))
  take_stands [] (suc k) n x lt p = p
  take_stands (y ∷ xs) (suc k) zero x lt p = p
  take_stands (y ∷ xs) (suc k) (suc n) x lt p = take_stands xs k n x (omega (arith, lt)) p

  -- one of a list is its last item or one of those before
  pub last_or_before : (xs : List A) (last x : A) → Stands xs (length xs - 1) last → IsOneOf xs x
      → (x ≡ last) ⊎ IsOneOf (take (length xs - 1) xs) x
  last_or_before xs last x at one =
      let within = stands_within xs one.place x one.stands in
      elim (lt_or_same one.place (length xs - 1) (omega (arith, within))) [
        | inl l ↦ inr (record { place = one.place; stands = take_stands xs (length xs - 1) one.place x l one.stands })
        | inr e ↦ inl (stands_one xs (length xs - 1) x last (subst (λ (n : ℕ). Stands xs n x) e one.stands) at)
      ]

  -- one item written between two parts
  pub set_between : (xs ys : List A) (a v : A) → set (xs ++ a ∷ ys) (length xs) v ≡ xs ++ v ∷ ys
  set_between [] ys a v = refl
  set_between (x ∷ xs) ys a v = ap (λ (zs : List A). x ∷ zs) (set_between xs ys a v)

  pub get_between : (xs ys : List A) (a d : A) → get_or (xs ++ a ∷ ys) (length xs) d ≡ a
  get_between [] ys a d = refl
  get_between (x ∷ xs) ys a d = get_between xs ys a d

module _ {A : Type 0} where
  -- one item more
  pub length_next : (xs ys : List A) (a : A) → ys ≡ xs ++ a ∷ [] → length ys ≡ length xs + 1
  length_next xs ys a e = let f = ap length e in let g = length-append xs (a ∷ []) in omega (arith, f, g)

  -- the rest of a list begins with the item at its place
  pub drop_one : (xs : List A) (k : ℕ) (d : A) → k < length xs → drop k xs ≡ get_or xs k d ∷ drop (k + 1) xs
  drop_one xs k d lt = rw (add-one, drop-cons xs k d)

  pub drop_all : (xs : List A) (k : ℕ) → length xs ≤ k → drop k xs ≡ []
  drop_all [] zero le = refl
  drop_all [] (suc k) le = refl
  drop_all (x ∷ xs) zero le = absurd (omega (arith, le))
  drop_all (x ∷ xs) (suc k) le = drop_all xs k (omega (arith, le))

module _ {A B : Type 0} (f : A → B) where
  pub length_map : (xs : List A) → length (map f xs) ≡ length xs
  length_map [] = refl
  length_map (x ∷ xs) = ap suc (length_map xs)
