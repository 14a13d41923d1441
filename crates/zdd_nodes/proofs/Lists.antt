-- Lists that grow by one item, and families by their numbers.
use Rattle.std.proofs.Common.{◌≡◌, ◌≢◌, ℕ, zero, suc, ◌+◌, ◌<◌, List, [], ◌∷◌, ◌++◌, length, slice_get, Some, refl, sym, ap, ◌∙◌, subst, arith, ⊎_elim, ◌⊎◌, inl, inr}
use Rattle.std.proofs.Math.ListN.{get_or-append}
use Rattle.std.proofs.Math.Seq.{get_or-append_seam}
use Rattle.std.proofs.lemmas.Option.{slice_get-get_or}
use Rattle.ar_base.specs.Lists.{AreDifferent}
use Rattle.zdd_nodes.specs.Families.{Family}
use Rattle.zdd_nodes.specs.FamiliesInside.{IsAbove}
use Rattle.zdd_nodes.proofs.Laws.{IsAbove-node}
use Rattle.zdd_nodes.specs.Nodes.{all_families, at, IsNode}

pub slice_get-push_cases : {A : Type 0} (xs : List A) (x : A) (k : ℕ) (m : A) → slice_get (xs ++ x ∷ []) k ≡ Some m
    → (slice_get xs k ≡ Some m) ⊎ ((k ≡ length xs) × (m ≡ x))
slice_get-push_cases [] x zero m e = let h : m ≡ x = cc in inr (refl, h)
slice_get-push_cases [] x (suc k) m e = let no : ⊥ = cc in absurd no
slice_get-push_cases (y ∷ xs) x zero m e = inl e
slice_get-push_cases (y ∷ xs) x (suc k) m e =
    ⊎_elim (λ l. inl l) (λ r. inr (ap suc r.0, r.1)) (slice_get-push_cases xs x k m e)

pub slice_get-push_here : {A : Type 0} (xs : List A) (x : A) → slice_get (xs ++ x ∷ []) (length xs) ≡ Some x
slice_get-push_here [] x = refl
slice_get-push_here (y ∷ xs) x = slice_get-push_here xs x

pub slice_get-push_before : {A : Type 0} (xs : List A) (x : A) (k : ℕ) (m : A) → slice_get xs k ≡ Some m
    → slice_get (xs ++ x ∷ []) k ≡ Some m
slice_get-push_before [] x k m e = let no : ⊥ = cc in absurd no
slice_get-push_before (y ∷ xs) x zero m e = e
slice_get-push_before (y ∷ xs) x (suc k) m e = slice_get-push_before xs x k m e

pub AreDifferent-push : {A : Type 0} (xs : List A) (x : A) → AreDifferent xs → ((k : ℕ) → slice_get xs k ≡ Some x → ⊥)
    → AreDifferent (xs ++ x ∷ [])
AreDifferent-push xs x d lacks = record {
  one = λ m n a p q.
      ⊎_elim
      (λ l. ⊎_elim (λ r. d.one m n a l r) (λ t. absurd (lacks m (l ∙ ap Some t.1))) (slice_get-push_cases xs x n a q))
      (λ s. ⊎_elim (λ r. absurd (lacks n (r ∙ ap Some s.1))) (λ t. s.0 ∙ sym t.0) (slice_get-push_cases xs x n a q))
      (slice_get-push_cases xs x m a p);
}

pub in_all : (fs : List Family) (n : ℕ) → n < length fs + 2 → n < length (all_families fs)
in_all fs n h = omega (arith, h)

pub at-append : (fs gs : List Family) (n : ℕ) → n < length fs + 2 → at (fs ++ gs) n ≡ at fs n
at-append fs gs n h = get_or-append (all_families fs) gs [] n (in_all fs n h)

pub at-seam : (fs : List Family) (f : Family) → at (fs ++ f ∷ []) (length fs + 2) ≡ f
at-seam fs f =
    let e : length fs + 2 ≡ length (all_families fs) = omega arith in
    ap (at (fs ++ f ∷ [])) e ∙ get_or-append_seam (all_families fs) f [] []

pub stands : (fs : List Family) (n : ℕ) → n < length fs + 2 → slice_get (all_families fs) n ≡ Some (at fs n)
stands fs n h = slice_get-get_or (all_families fs) n [] (in_all fs n h)

pub same_number : (fs : List Family) → AreDifferent (all_families fs) → (i j : ℕ) → i < length fs + 2 → j < length fs + 2
    → at fs i ≡ at fs j → i ≡ j
same_number fs d i j p q e = d.one i j (at fs j) (stands fs i p ∙ ap Some e) (stands fs j q)

pub nodes_different : (fs : List Family) → AreDifferent (all_families fs) → AreDifferent fs
nodes_different fs d = record { one = λ m n a p q. let e : suc (suc m) ≡ suc (suc n) = d.one (suc (suc m)) (suc (suc n)) a p q in omega (arith, e) }

-- a number over 0 has sets
pub some_sets : (fs : List Family) → AreDifferent (all_families fs) → (n : ℕ) → 0 < n → n < length fs + 2 → at fs n ≢ []
some_sets fs d n p q = λ e. let z : n ≡ 0 = same_number fs d n 0 q (omega arith) e in omega (arith, z)

-- a node lies above every number below its event
pub node_above : (fs : List Family) (v k w lo hi : ℕ) → v < w → IsNode fs k w lo hi → IsAbove v (at fs k)
node_above fs v k w lo hi h i = subst (IsAbove v) (sym i.is)
    (IsAbove-node v w (at fs lo) (at fs hi) h i.lo_above i.hi_above)
