-- The numbers that stand in pairs with some firsts.
use Rattle.std.proofs.Common.{◌≡◌, ◌↔◌, ℕ, zero, suc, ◌+◌, ◌<◌, ◌⊎◌, inl, inr, Less, List, [], ◌∷◌, ◌++◌, map, length, get_or, take, nat_eq, refl, sym, subst, arith}
use Rattle.std.specs.Ordering.{nat_cmp}
use Rattle.std.specs.Cmp.{unsigned_ties, unsigned_Decides}
use Rattle.std.proofs.lemmas.Cmp.{nat_cmp_total, nat_eq_equiv, ranked}
use Rattle.std.specs.List.{dedup}
use Rattle.std.specs.List.Sorted.{IsSorted, IsPermutation, IsStrictlySortedBy}
use Rattle.std.specs.List.Retain.{IsFiltered, DiffersFromLast}
use Rattle.std.proofs.lemmas.List.{take_more}
use Rattle.std.proofs.lemmas.List.Sorted.{Contains-permutation, IsPermutation-sym}
use Rattle.std.proofs.lemmas.List.Filters.{dedup_is}
use Rattle.std.proofs.lemmas.List.Kept.{Contains-dedup, Contains-from_dedup, IsStrictlySortedBy-dedup}
use Rattle.ar_base.specs.Lists.{Stands, IsOneOf}
use Rattle.ar_base.proofs.Standing.{stands_none, stands_map, stands_map_back, one_here, one_none, one_split, one_left, one_right, one_contains, contains_one}
use Rattle.ar_base.proofs.Items.{all_stand}
use Rattle.ar_base.specs.Sets.{Ascends}
use Rattle.ar_base.specs.Pairing.{IsPaired, AddsRun}

-- the pairs with a first give their numbers
pub run_added : (pairs : List (ℕ × ℕ)) (first : ℕ) (run : List (ℕ × ℕ)) (old new : List ℕ)
    → new ≡ old ++ map (λ (q : ℕ × ℕ). q.1) run
    → ((q : ℕ × ℕ) → IsOneOf run q → IsOneOf pairs q × (q.0 ≡ first))
    → ((n : ℕ) → IsOneOf pairs (first, n) → IsOneOf run (first, n)) → AddsRun pairs first old new
run_added pairs first run old new e among all =
    record {
      each = λ n. subst (λ (z : List ℕ). IsOneOf z n ↔ (IsOneOf old n ⊎ IsOneOf pairs (first, n))) (sym e)
          (on n, off n);
    }
  where
    seconds : List ℕ
    seconds = map (λ (q : ℕ × ℕ). q.1) run

    found : (n : ℕ) → IsOneOf seconds n → IsOneOf pairs (first, n)
    found n o =
        let b = stands_map_back (λ (q : ℕ × ℕ). q.1) run o.place n o.stands in
        let a = among b.0 (one_here run o.place b.0 b.1) in
        let at : IsOneOf pairs (b.0.0, n) = subst (λ (z : ℕ). IsOneOf pairs (b.0.0, z)) b.2 a.0 in
        subst (λ (z : ℕ). IsOneOf pairs (z, n)) a.1 at

    on : (n : ℕ) → IsOneOf (old ++ seconds) n → IsOneOf old n ⊎ IsOneOf pairs (first, n)
    on n o = elim (one_split old seconds n o) [ inl k ↦ inl k | inr k ↦ inr (found n k) ]

    off : (n : ℕ) → IsOneOf old n ⊎ IsOneOf pairs (first, n) → IsOneOf (old ++ seconds) n
    off n (inl o) = one_left old seconds n o
    off n (inr o) = let r = all n o in one_right old seconds n (one_here seconds r.place n (stands_map (λ (q : ℕ × ℕ). q.1) run r.place (first, n) r.stands))

-- no first has pairs
pub paired_none : (pairs : List (ℕ × ℕ)) (n : ℕ) → IsOneOf [] n ↔ IsPaired pairs [] n
paired_none pairs n = (λ h. absurd (one_none n h), λ h. absurd (one_none h.first h.is_one))

last_one : (xs : List ℕ) (a b : ℕ) → IsOneOf (xs ++ a ∷ []) b → IsOneOf xs b ⊎ (a ≡ b)
last_one xs a b o = elim (one_split xs (a ∷ []) b o) [ inl k ↦ inl k | inr k ↦ inr (only k.place k.stands) ]
  where
    only : (k : ℕ) → Stands (a ∷ []) k b → a ≡ b
    only zero s = cc
    only (suc zero) s = cc
    only (suc (suc k)) s = cc

-- one first more
pub paired_more : (pairs : List (ℕ × ℕ)) (xs : List ℕ) (i : ℕ) (d : ℕ) (old new : List ℕ) → i < length xs
    → ((n : ℕ) → (IsOneOf old n ↔ IsPaired pairs (take i xs) n)) → AddsRun pairs (get_or xs i d) old new
    → (n : ℕ) → (IsOneOf new n ↔ IsPaired pairs (take (i + 1) xs) n)
paired_more pairs xs i d old new h before adds n = (on, off)
  where
    x : ℕ
    x = (get_or xs i d)

    split : take (i + 1) xs ≡ take i xs ++ x ∷ []
    split = take_more xs i d h

    now : (y : ℕ) → IsOneOf (take i xs ++ x ∷ []) y → IsOneOf (take (i + 1) xs) y
    now y o = subst (λ (z : List ℕ). IsOneOf z y) (sym split) o

    on : IsOneOf new n → IsPaired pairs (take (i + 1) xs) n
    on o = elim ((adds.each n).0 o) [
      | inl k ↦ let p = (before n).0 k in record { first = p.first; is_one = now p.first (one_left (take i xs) (x ∷ []) p.first p.is_one); pair = p.pair }
      | inr k ↦ record {
        first = x;
        is_one = now x (one_right (take i xs) (x ∷ []) x (one_here (x ∷ []) 0 x refl));
        pair = k;
      }
    ]

    off : IsPaired pairs (take (i + 1) xs) n → IsOneOf new n
    off p = elim (last_one (take i xs) x p.first (subst (λ (z : List ℕ). IsOneOf z p.first) split p.is_one)) [
      | inl k ↦ (adds.each n).1 (inl ((before n).1 (record { first = p.first; is_one = k; pair = p.pair })))
      | inr e ↦ (adds.each n).1 (inr (subst (λ (z : ℕ). IsOneOf pairs (z, n)) (sym e) p.pair))
    ]

strictly : (xs : List ℕ) (j k q r : ℕ) → IsStrictlySortedBy nat_cmp xs → j < k → Stands xs j q → Stands xs k r → q < r
unfolding IsStrictlySortedBy
strictly [] j k q r s h a b = absurd (stands_none j q a)
strictly (x ∷ xs) j zero q r s h a b = absurd (omega arith)
strictly (x ∷ xs) zero (suc k) q r s h a b =
    let e : x ≡ q = cc in
    ranked q r Less (sym (subst (λ (z : ℕ). nat_cmp z r ≡ Less) e (all_stand (λ y. nat_cmp x y ≡ Less) xs k r s.0 b)))
strictly (x ∷ xs) (suc j) (suc k) q r s h a b = strictly xs j k q r s.1 (omega arith) a b

-- the numbers, sorted and each once, ascend and are the same
pub sorted_ascends : (all sorted kept : List ℕ) → IsPermutation all sorted → IsSorted nat_cmp sorted
    → IsFiltered (DiffersFromLast nat_eq) [] sorted kept → Ascends kept
sorted_ascends all sorted kept perm order filtered =
    subst Ascends (sym (dedup_is nat_eq sorted kept filtered))
    (record {
      ascends = λ j k a b l s t. strictly (dedup nat_eq sorted) j k a b
          (IsStrictlySortedBy-dedup nat_cmp_total unsigned_ties sorted order) l s t;
    })

pub sorted_same : (all sorted kept : List ℕ) → IsPermutation all sorted
    → IsFiltered (DiffersFromLast nat_eq) [] sorted kept → (n : ℕ)
    → IsOneOf kept n ↔ IsOneOf all n
sorted_same all sorted kept perm filtered n =
    subst (λ (z : List ℕ). IsOneOf z n ↔ IsOneOf all n) (sym (dedup_is nat_eq sorted kept filtered)) (back, there)
  where
    there : IsOneOf all n → IsOneOf (dedup nat_eq sorted) n
    there o = one_contains (dedup nat_eq sorted) n
        (Contains-dedup nat_eq_equiv (λ x y. (unsigned_Decides x y).0) sorted n
        (Contains-permutation all sorted n perm (contains_one all n o)))

    back : IsOneOf (dedup nat_eq sorted) n → IsOneOf all n
    back o = one_contains all n (Contains-permutation sorted all n (IsPermutation-sym all sorted perm)
        (Contains-from_dedup nat_eq sorted n (contains_one (dedup nat_eq sorted) n o)))
