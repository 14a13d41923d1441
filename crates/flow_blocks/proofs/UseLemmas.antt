-- The uses so far.
use Rattle.std.proofs.Common.{◌≡◌, ℕ, zero, suc, ◌+◌, ◌-◌, ◌<◌, ◌≤◌, ◌⊎◌, Bool, true, false, ◌||◌, List, [], ◌∷◌, take, length, get_or, refl, sym, ◌∙◌, subst, arith, inl, inr, true≢false, set, slice_get, drop, add-one, drop-cons}
use Rattle.std.proofs.lemmas.Bool.{cases_lt}
use Rattle.std.proofs.lemmas.Option.{slice_get-get_or}
use Rattle.std.proofs.lemmas.List.Sorted.{Contains-permutation}
use Rattle.std.specs.List.Sorted.{IsPermutation}
use Rattle.ar_base.specs.Lists.{Stands, IsOneOf}
use Rattle.ar_base.proofs.Standing.{stands_within, stands_one, one_contains, contains_one}

module _ {A : Type 0} where
  -- what stands at an index is one of the list
  pub one_at : (xs : List A) (k : ℕ) (d : A) → k < length xs → IsOneOf xs (get_or xs k d)
  one_at xs k d lt = record { place = k; stands = slice_get-get_or xs k d lt }

  pub stands_take : (xs : List A) (k n : ℕ) (x : A) → Stands (take k xs) n x → Stands xs n x
  stands_take xs zero zero x p = cc
  stands_take xs zero (suc n) x p = cc
  stands_take [] (suc k) n x p = p
  stands_take (y ∷ xs) (suc k) zero x p = p
  stands_take (y ∷ xs) (suc k) (suc n) x p = stands_take xs k n x p

  pub take_stands : (xs : List A) (k n : ℕ) (x : A) → n < k → Stands xs n x → Stands (take k xs) n x
  take_stands xs zero n x lt p = absurd (omega arith)
  take_stands [] (suc k) n x lt p = p
  take_stands (y ∷ xs) (suc k) zero x lt p = p
  take_stands (y ∷ xs) (suc k) (suc n) x lt p = take_stands xs k n x (omega arith) p

  pub below_take : (xs : List A) (k n : ℕ) (x : A) → Stands (take k xs) n x → n < k
  below_take xs zero zero x p = cc
  below_take xs zero (suc n) x p = cc
  below_take [] (suc k) zero x p = omega arith
  below_take [] (suc k) (suc n) x p = cc
  below_take (y ∷ xs) (suc k) zero x p = omega arith
  below_take (y ∷ xs) (suc k) (suc n) x p = let on = below_take xs k n x p in omega arith

  -- one of the first items is one of all
  pub one_of_all : (xs : List A) (k : ℕ) (x : A) → IsOneOf (take k xs) x → IsOneOf xs x
  one_of_all xs k x one = record { place = one.place; stands = stands_take xs k one.place x one.stands }

  pub one_of_more : (xs : List A) (k : ℕ) (x : A) → IsOneOf (take k xs) x → IsOneOf (take (k + 1) xs) x
  one_of_more xs k x one = record { place = one.place; stands = take_stands xs (k + 1) one.place x (let lt = below_take xs k one.place x one.stands in omega arith) (stands_take xs k one.place x one.stands) }

  pub next_one : (xs : List A) (k : ℕ) (d : A) → k < length xs → IsOneOf (take (k + 1) xs) (get_or xs k d)
  next_one xs k d lt = record {
    place = k;
    stands = take_stands xs (k + 1) k (get_or xs k d) (omega arith) (slice_get-get_or xs k d lt);
  }

  -- one of one item more is the next one, or one of those before
  pub one_of_next : (xs : List A) (k : ℕ) (d x : A) → k < length xs → IsOneOf (take (k + 1) xs) x
      → IsOneOf (take k xs) x ⊎ (x ≡ get_or xs k d)
  one_of_next xs k d x lt one =
      let here = stands_take xs (k + 1) one.place x one.stands in
      let low = below_take xs (k + 1) one.place x one.stands in
      by here (cases_lt one.place k)
    where
      by : Stands xs one.place x → ((one.place < k) ⊎ (k ≤ one.place)) → IsOneOf (take k xs) x ⊎ (x ≡ get_or xs k d)
      by here (inl below) = inl (record { place = one.place; stands = take_stands xs k one.place x below here })
      by here (inr not_below) =
          let low = below_take xs (k + 1) one.place x one.stands in
          let same : one.place ≡ k = omega arith in
          let there : Stands xs k x = subst (λ (n : ℕ). Stands xs n x) same here in
          let got = slice_get-get_or xs k d lt in
          inr (cc)

-- neither holds where one of both does not
pub neither : (a b r : Bool) → r ≡ (a || b) → r ≡ false → (a ≡ false) × (b ≡ false)
neither true b r is e = absurd (true≢false (sym is ∙ e))
neither false b r is e = (refl, sym is ∙ e)

pub one_of_both : (a b r : Bool) → r ≡ (a || b) → r ≡ true → (a ≡ true) ⊎ (b ≡ true)
one_of_both true b r is e = inl refl
one_of_both false b r is e = inr (sym is ∙ e)

module _ {A : Type 0} where
  -- a list in another order has the same items
  pub one_reordered : (xs ys : List A) (x : A) → IsPermutation xs ys → IsOneOf xs x → IsOneOf ys x
  one_reordered xs ys x p one = one_contains ys x (Contains-permutation xs ys x p (contains_one xs x one))

module _ {A : Type 0} where
  pub set_stands : (xs : List A) (k : ℕ) (x : A) → k < length xs → Stands (set xs k x) k x
  set_stands [] k x lt = absurd (omega arith)
  set_stands (y ∷ xs) zero x lt = refl
  set_stands (y ∷ xs) (suc k) x lt = set_stands xs k x (omega arith)

  pub set_keeps : (xs : List A) (k n : ℕ) (x : A) → (n ≡ k → ⊥) → slice_get (set xs k x) n ≡ slice_get xs n
  set_keeps [] k n x ne = refl
  set_keeps (y ∷ xs) zero zero x ne = absurd (ne refl)
  set_keeps (y ∷ xs) zero (suc n) x ne = refl
  set_keeps (y ∷ xs) (suc k) zero x ne = refl
  set_keeps (y ∷ xs) (suc k) (suc n) x ne = set_keeps xs k n x (λ (e : n ≡ k). ne (omega arith))

-- one of a list is its last item or one of those before
pub last_or_before : {A : Type 0} (xs : List A) (last x : A) → Stands xs (length xs - 1) last → IsOneOf xs x
    → (x ≡ last) ⊎ IsOneOf (take (length xs - 1) xs) x
last_or_before xs last x at one =
    let within = stands_within xs one.place x one.stands in
    by within (cases_lt one.place (length xs - 1))
  where
    by : one.place < length xs → ((one.place < length xs - 1) ⊎ (length xs - 1 ≤ one.place))
        → (x ≡ last) ⊎ IsOneOf (take (length xs - 1) xs) x
    by within (inl below) = inr (record
        { place = one.place; stands = take_stands xs (length xs - 1) one.place x below one.stands })
    by within (inr not_below) =
        let same : one.place ≡ length xs - 1 = omega arith in
        inl (stands_one xs (length xs - 1) x last (subst (λ (n : ℕ). Stands xs n x) same one.stands) at)

module _ {A : Type 0} where
  -- the rest of a list begins with the item at its place
  pub drop_one : (xs : List A) (k : ℕ) (d : A) → k < length xs → drop k xs ≡ get_or xs k d ∷ drop (k + 1) xs
  drop_one xs k d lt = rw (add-one, drop-cons xs k d)

  pub drop_all : (xs : List A) (k : ℕ) → length xs ≤ k → drop k xs ≡ []
  drop_all [] zero le = refl
  drop_all [] (suc k) le = refl
  drop_all (x ∷ xs) zero le = absurd (omega arith)
  drop_all (x ∷ xs) (suc k) le = drop_all xs k (omega arith)
