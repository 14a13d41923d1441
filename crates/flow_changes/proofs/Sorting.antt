-- Numbers in order.
use Rattle.std.proofs.Common.{◌≡◌, ℕ, zero, suc, ◌<◌, Less, List, [], ◌∷◌, get_or, nat_eq, sym, subst, arith}
use Rattle.std.specs.Ordering.{nat_cmp}
use Rattle.std.specs.List.{AllByRecursion, dedup}
use Rattle.std.specs.List.Sorted.{IsSorted, IsPermutation, IsStrictlySortedBy}
use Rattle.std.specs.List.Retain.{IsFiltered, DiffersFromLast}
use Rattle.std.proofs.lemmas.Cmp.{nat_cmp_total, nat_eq_equiv, ranked}
use Rattle.std.proofs.lemmas.List.Sorted.{IsNonDecreasingBy-from_sort, Contains-permutation, IsPermutation-sym}
use Rattle.std.proofs.lemmas.List.Filters.{dedup_is}
use Rattle.std.proofs.lemmas.List.Kept.{Contains-dedup, Contains-from_dedup, IsStrictlySortedBy-dedup}
use Rattle.std.specs.Cmp.{unsigned_ties, unsigned_Decides}
use Rattle.ar_base.specs.Lists.{Stands, IsOneOf}
use Rattle.ar_base.specs.Sets.{Ascends}
use Rattle.ar_base.proofs.Standing.{stands_within, stands_none, stands_get, stands_one, one_contains, contains_one}
use Rattle.ar_base.proofs.Items.{all_stand}
use Rattle.flow_changes.specs.Queue.{NeverFalls}

pub rises_sorted : (xs : List ℕ) → IsSorted nat_cmp xs → NeverFalls xs
rises_sorted xs s i j a b l p q =
    let h = IsNonDecreasingBy-from_sort (λ (z : ℕ). z) xs s i j 0 l (stands_within xs j b q) in
    let x : get_or xs i 0 ≡ a = stands_one xs i (get_or xs i 0) a (stands_get xs i 0 (stands_within xs i a p)) p in
    let y : get_or xs j 0 ≡ b = stands_one xs j (get_or xs j 0) b (stands_get xs j 0 (stands_within xs j b q)) q in
    omega (arith, h, x, y)

pub one_moved : (xs ys : List ℕ) (n : ℕ) → IsPermutation xs ys → IsOneOf xs n → IsOneOf ys n
one_moved xs ys n perm o = one_contains ys n (Contains-permutation xs ys n perm (contains_one xs n o))

pub one_back : (xs ys : List ℕ) (n : ℕ) → IsPermutation xs ys → IsOneOf ys n → IsOneOf xs n
one_back xs ys n perm o = one_contains xs n
    (Contains-permutation ys xs n (IsPermutation-sym xs ys perm) (contains_one ys n o))

strictly : (xs : List ℕ) (j k q r : ℕ) → IsStrictlySortedBy nat_cmp xs → j < k → Stands xs j q → Stands xs k r
    → nat_cmp q r ≡ Less
unfolding IsStrictlySortedBy
strictly [] j k q r s h a b = absurd (stands_none j q a)
strictly (x ∷ xs) j zero q r s h a b = absurd (omega arith)
strictly (x ∷ xs) zero (suc k) q r s h a b = let e : x ≡ q = cc in subst (λ (z : ℕ). nat_cmp z r ≡ Less) e (all_stand (λ y. nat_cmp x y ≡ Less) xs k r s.0 b)
strictly (x ∷ xs) (suc j) (suc k) q r s h a b = strictly xs j k q r s.1 (omega arith) a b

module _ (found sorted kept : List ℕ) (perm : IsPermutation found sorted) (order : IsSorted nat_cmp sorted)
    (filtered : IsFiltered (DiffersFromLast nat_eq) [] sorted kept) where
  is : kept ≡ dedup nat_eq sorted
  is = dedup_is nat_eq sorted kept filtered

  pub kept_ascends : Ascends kept
  kept_ascends = subst Ascends (sym is)
      (record {
        ascends = λ j k a b l s t. ranked a b Less
            (sym (strictly (dedup nat_eq sorted) j k a b (IsStrictlySortedBy-dedup nat_cmp_total unsigned_ties sorted order) l
            s t));
      })

  pub kept_there : (n : ℕ) → IsOneOf found n → IsOneOf kept n
  kept_there n o = subst (λ (z : List ℕ). IsOneOf z n) (sym is)
      (one_contains (dedup nat_eq sorted) n
      (Contains-dedup nat_eq_equiv (λ x y e. (unsigned_Decides x y).0 e) sorted n
      (contains_one sorted n (one_moved found sorted n perm o))))

  pub kept_back : (n : ℕ) → IsOneOf kept n → IsOneOf found n
  kept_back n o = one_back found sorted n perm
      (one_contains sorted n (Contains-from_dedup nat_eq sorted n
      (contains_one (dedup nat_eq sorted) n (subst (λ (z : List ℕ). IsOneOf z n) is o))))
