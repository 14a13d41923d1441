-- Items that are picked out of lists by their numbers, and written back.
use Rattle.std.proofs.Common.{◌≡◌, ℕ, zero, suc, ◌+◌, ◌<◌, ◌≤◌, ◌⊎◌, inl, inr, List, [], ◌∷◌, ◌++◌, take, drop, length, get_or, set, slice_get, Some, refl, sym, ap, ◌∙◌, subst, arith, length-set, length-append, take_all}
use Rattle.std.proofs.lemmas.List.{take_more, at_drop_more, at_drop_all}
use Rattle.std.proofs.lemmas.Option.{get_or_from_slice_get}
use Rattle.std.proofs.lemmas.Bool.{cases_eq}
use Rattle.ar_base.specs.Lists.{Stands, IsOneOf}
use Rattle.ar_base.proofs.Standing.{stands_get, stands_within, stands_some, stands_one, stands_left, stands_next, stands_split, one_none, one_cases, one_first, one_rest, one_left, one_right, one_split, only_item}
use Rattle.flow_changes.specs.Picking.{KeepsOthers, ArePicked, AreSet, AreWithin}

module _ {A : Type 0} where
  -- what stands in a list where one item was set
  pub set_same : (xs : List A) (k : ℕ) (x : A) → k < length xs → Stands (set xs k x) k x
  set_same [] k x h = absurd (omega (arith, h))
  set_same (y ∷ xs) zero x h = refl
  set_same (y ∷ xs) (suc k) x h = set_same xs k x (omega (arith, h))

  pub set_other : (xs : List A) (k n : ℕ) (x : A) → (n ≡ k → ⊥) → slice_get (set xs k x) n ≡ slice_get xs n
  set_other [] k n x f = refl
  set_other (y ∷ xs) zero zero x f = absurd (f refl)
  set_other (y ∷ xs) zero (suc n) x f = refl
  set_other (y ∷ xs) (suc k) zero x f = refl
  set_other (y ∷ xs) (suc k) (suc n) x f = set_other xs k n x (λ e. f (ap suc e))

  -- lists with the same items at the same places are the same
  pub same_lists : (xs ys : List A) → ((n : ℕ) → slice_get xs n ≡ slice_get ys n) → xs ≡ ys
  same_lists [] [] h = refl
  same_lists [] (y ∷ ys) h = let e = h 0 in cc
  same_lists (x ∷ xs) [] h = let e = h 0 in cc
  same_lists (x ∷ xs) (y ∷ ys) h =
      let e : Some x ≡ Some y = h 0 in
      let i : x ≡ y = cc in
      ap (λ (z : A). z ∷ xs) i ∙ ap (λ (z : List A). y ∷ z) (same_lists xs ys (λ n. h (suc n)))

module _ {A : Type 0} where
  read_here : (xs : List A) (i : ℕ) (x : A) → Stands xs i x → get_or xs i x ≡ x
  read_here xs i x s = get_or_from_slice_get xs i x x s

  -- the first items and the next one
  pub take_next : (xs : List A) (i : ℕ) (x : A) → Stands xs i x → take (i + 1) xs ≡ take i xs ++ x ∷ []
  take_next xs i x s = take_more xs i x (stands_within xs i x s)
      ∙ ap (λ (z : A). take i xs ++ z ∷ []) (read_here xs i x s)

  -- the next item and those after it
  pub drop_next : (xs : List A) (i : ℕ) (x : A) → Stands xs i x → drop i xs ≡ x ∷ drop (i + 1) xs
  drop_next xs i x s = at_drop_more (λ (z : List A). z) xs i x (stands_within xs i x s)
      ∙ ap (λ (z : A). z ∷ drop (i + 1) xs) (read_here xs i x s)

  pub drop_none : (xs : List A) (i : ℕ) → length xs ≤ i → drop i xs ≡ []
  drop_none xs i h = at_drop_all (λ (z : List A). z) xs i h

  -- the first items and one more
  pub one_taken : (xs : List A) (i : ℕ) (x y : A) → Stands xs i x → IsOneOf (take (i + 1) xs) y
      → IsOneOf (take i xs) y ⊎ (x ≡ y)
  one_taken xs i x y s o = elim (one_split (take i xs) (x ∷ []) y
      (subst (λ (z : List A). IsOneOf z y) (take_next xs i x s) o)) [ inl k ↦ inl k | inr k ↦ inr (only_item x y k) ]

  pub one_before : (xs : List A) (i : ℕ) (x y : A) → Stands xs i x → IsOneOf (take i xs) y → IsOneOf (take (i + 1) xs) y
  one_before xs i x y s o = subst (λ (z : List A). IsOneOf z y) (sym (take_next xs i x s))
      (one_left (take i xs) (x ∷ []) y o)

  pub one_now : (xs : List A) (i : ℕ) (x : A) → Stands xs i x → IsOneOf (take (i + 1) xs) x
  one_now xs i x s = subst (λ (z : List A). IsOneOf z x) (sym (take_next xs i x s))
      (one_right (take i xs) (x ∷ []) x (one_first x []))

  pub taken_long : (i : ℕ) (xs : List A) → i ≤ length xs → length (take i xs) ≡ i
  taken_long zero xs h = refl
  taken_long (suc i) [] h = absurd (omega (arith, h))
  taken_long (suc i) (x ∷ xs) h = ap suc (taken_long i xs (omega (arith, h)))

-- a number of the list is below the length
pub within_at : {A : Type 0} (numbers : List ℕ) (all : List A) → AreWithin numbers all → (i : ℕ) → i < length numbers
    → get_or numbers i 0 < length all
within_at numbers all w i h = w (get_or numbers i 0) (record { place = i; stands = stands_get numbers i 0 h })

module _ {A : Type 0} where
  pub keeps_same : (numbers : List ℕ) (old : List A) → KeepsOthers numbers old old
  keeps_same numbers old = record { long = refl; others = λ n o. refl }

  pub keeps_then : (numbers : List ℕ) (old mid new : List A) → KeepsOthers numbers old mid → KeepsOthers numbers mid new
      → KeepsOthers numbers old new
  keeps_then numbers old mid new a b = record { long = b.long ∙ a.long; others = λ n o. b.others n o ∙ a.others n o }

  pub keeps_more : (some all : List ℕ) (old new : List A) → ((n : ℕ) → IsOneOf some n → IsOneOf all n)
      → KeepsOthers some old new → KeepsOthers all old new
  keeps_more some all old new within k = record { long = k.long; others = λ n o. k.others n (λ h. o (within n h)) }

  pub set_none : (a : A) (numbers : List ℕ) (old : List A) → AreSet a (take 0 numbers) old old
  set_none a numbers old = record {
    keeps = record { long = refl; others = λ n o. refl };
    each = λ n o. absurd (one_none n o);
  }

  pub set_next : (a : A) (numbers : List ℕ) (i n : ℕ) (old new : List A) → Stands numbers i n → n < length old
      → AreSet a (take i numbers) old new → AreSet a (take (i + 1) numbers) old (set new n a)
  set_next a numbers i n old new st below s = record {
    keeps = record {
      long = length-set new n a ∙ s.keeps.long;
      others = λ m o. set_other new n m a
          (λ k. o (subst (λ (z : ℕ). IsOneOf (take (i + 1) numbers) z) (sym k) (one_now numbers i n st)))
          ∙ s.keeps.others m (λ k. o (one_before numbers i n m st k));
    };
    each = λ m o. at m (cases_eq m n) (one_taken numbers i n m st o);
  }
    where
      here : Stands (set new n a) n a
      here = set_same new n a (omega (arith, below, s.keeps.long))

      at : (m : ℕ) → (m ≡ n) ⊎ (m ≡ n → ⊥) → IsOneOf (take i numbers) m ⊎ (n ≡ m) → Stands (set new n a) m a
      at m (inl k) o = subst (λ (z : ℕ). Stands (set new n a) z a) (sym k) here
      at m (inr f) (inl o) = set_other new n m a f ∙ s.each m o
      at m (inr f) (inr k) = absurd (f (sym k))

  pub set_done : (a : A) (numbers : List ℕ) (i : ℕ) (old new : List A) → length numbers ≤ i
      → AreSet a (take i numbers) old new → AreSet a numbers old new
  set_done a numbers i old new h s = subst (λ (z : List ℕ). AreSet a z old new) (take_all i numbers h) s

  pub picked_none : (numbers : List ℕ) (all : List A) → ArePicked (take 0 numbers) all []
  picked_none numbers all = record { long = refl; each = λ k n a s t. none k n s }
    where
      none : (k n : ℕ) {a : A} → Stands [] k n → Stands [] k a
      none k n s = absurd (one_none n (record { place = k; stands = s }))

  pub picked_next : (numbers : List ℕ) (all items : List A) (i n : ℕ) (a : A) → Stands numbers i n → Stands all n a
      → ArePicked (take i numbers) all items → ArePicked (take (i + 1) numbers) all (items ++ a ∷ [])
  picked_next numbers all items i n a st at p = record {
    long = length-append items (a ∷ []) ∙ (let h = stands_within numbers i n st in let l = taken_long i numbers (omega (arith, h)) in let m = taken_long (i + 1) numbers (omega (arith, h)) in omega (arith, l, m, p.long));
    each = λ k m b s t. by k m b t (stands_split (take i numbers) (n ∷ []) k m
        (subst (λ (z : List ℕ). Stands z k m) (take_next numbers i n st) s));
  }
    where
      last : (k j m : ℕ) (b : A) → Stands all m b → k ≡ length (take i numbers) + j → Stands (n ∷ []) j m
          → Stands (items ++ a ∷ []) k b
      last k zero m b t l s =
          let same : n ≡ m = cc in
          let here : a ≡ b = stands_one all n a b at (subst (λ (z : ℕ). Stands all z b) (sym same) t) in
          let place : length items ≡ k = omega (arith, p.long, l) in
          subst (λ (z : ℕ). Stands (items ++ a ∷ []) z b) place
          (subst (λ (z : A). Stands (items ++ a ∷ []) (length items) z) here (stands_next items a []))
      last k (suc j) m b t l s = absurd (one_none m (record { place = j; stands = s }))

      by : (k m : ℕ) (b : A) → Stands all m b
          → Stands (take i numbers) k m ⊎ ((j : ℕ) × (k ≡ length (take i numbers) + j) × Stands (n ∷ []) j m)
          → Stands (items ++ a ∷ []) k b
      by k m b t (inl s) = stands_left items (a ∷ []) k b (p.each k m b s t)
      by k m b t (inr s) = last k s.0 m b t s.1 s.2

  pub picked_done : (numbers : List ℕ) (i : ℕ) (all items : List A) → length numbers ≤ i
      → ArePicked (take i numbers) all items → ArePicked numbers all items
  picked_done numbers i all items h p = subst (λ (z : List ℕ). ArePicked z all items) (take_all i numbers h) p

  -- one item was written back
  pub back_next : (numbers : List ℕ) (was items all : List A) (i n : ℕ) (a : A) → Stands numbers i n → Stands items i a
      → n < length all → ArePicked numbers was items → KeepsOthers (drop i numbers) was all
      → KeepsOthers (drop (i + 1) numbers) was (set all n a)
  back_next numbers was items all i n a st at below p k =
      record { long = length-set all n a ∙ k.long; others = λ m o. by m o (cases_eq m n) }
    where
      here : slice_get (set all n a) n ≡ slice_get was n
      here =
          let b = stands_some was n (omega (arith, below, k.long)) in
          let same : a ≡ b.0 = stands_one items i a b.0 at (p.each i n b.0 st b.1) in
          set_same all n a below ∙ ap Some same ∙ sym b.1

      by : (m : ℕ) → (IsOneOf (drop (i + 1) numbers) m → ⊥) → (m ≡ n) ⊎ (m ≡ n → ⊥)
          → slice_get (set all n a) m ≡ slice_get was m
      by m o (inl j) = subst (λ (z : ℕ). slice_get (set all n a) z ≡ slice_get was z) (sym j) here
      by m o (inr f) = set_other all n m a f
          ∙ k.others m (λ d. elim (one_cases n (drop (i + 1) numbers) m
          (subst (λ (z : List ℕ). IsOneOf z m) (drop_next numbers i n st) d)) [ inl j ↦ f (sym j) | inr d ↦ o d ])

  pub back_done : (numbers : List ℕ) (was all : List A) (i : ℕ) → length numbers ≤ i
      → KeepsOthers (drop i numbers) was all → all ≡ was
  back_done numbers was all i h k = same_lists all was
      (λ n. k.others n (λ o. one_none n (subst (λ (z : List ℕ). IsOneOf z n) (drop_none numbers i h) o)))
