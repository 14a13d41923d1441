-- What is found in lists that are in order.
use Rattle.std.proofs.Common.{◌≡◌, ℕ, zero, suc, ◌+◌, ◌<◌, ◌≤◌, ◌⊎◌, inl, inr, Bool, true, false, ◌==◌, nat_lt, List, [], ◌∷◌, length, Some, None, slice_index_or, refl, sym, ap, ◌∙◌, subst, arith, ltb}
use Rattle.std.proofs.lemmas.Bool.{ltb-true, ltb-false}
use Rattle.std.proofs.lemmas.Bool.Decides.{nat_tests}
use Rattle.std.proofs.lemmas.Option.{get_or_from_slice_get}
use Rattle.std.specs.List.Sorted.{IsNonDecreasingBy, IsPartitionPoint}
use Rattle.ar_base.specs.Lists.{Stands}
use Rattle.ar_base.specs.Numbers.{NameId}
use Rattle.ar_base.specs.NumbersInside.{UnitId}
use Rattle.ar_base.proofs.Standing.{stands_within, stands_get, stands_one}
use Rattle.ar_base.proofs.Comparing.{side}
use Rattle.hierarchy.specs.Tie.{entry_in}
use Rattle.hierarchy.specs.Finding.{entry_name, FindsNode}
use Rattle.hierarchy.specs.declared.tree.MemNode.{MemNode}

module _ {A : Type 0} (n : A → ℕ) (xs : List A) (u : ℕ) where
  module _ (from : ℕ) (low : IsPartitionPoint (λ y. ltb (n y) u ≡ true) (λ y. ltb (n y) u ≡ false) xs from) where
    -- before the point the numbers are below u
    pub before_low : (k : ℕ) (d : A) → Stands xs k d → k < from → n d < u
    before_low k d p h =
        let e = low.0 k d (omega arith) h in
        ltb-true (n d) u (subst (λ (y : A). ltb (n y) u ≡ true) (get_or_from_slice_get xs k d d p) e)

    -- from it on they are not
    pub from_low : (k : ℕ) (d : A) → Stands xs k d → from ≤ k → u ≤ n d
    from_low k d p h =
        let e = low.1 k d h (stands_within xs k d p) in
        ltb-false (n d) u (subst (λ (y : A). ltb (n y) u ≡ false) (get_or_from_slice_get xs k d d p) e)

-- Entries

-- two numbers are equal or not
pub same_or_not : (a b : ℕ) → (((a == b) ≡ true) × (a ≡ b)) ⊎ (((a == b) ≡ false) × (a ≡ b → ⊥))
same_or_not a b = go (a == b) refl
  where
    go : (t : Bool) → (a == b) ≡ t → (((a == b) ≡ true) × (a ≡ b)) ⊎ (((a == b) ≡ false) × (a ≡ b → ⊥))
    go true q = inl (q, grind (arith, nat_tests))
    go false q = inr (q, λ e. grind (arith, nat_tests))

-- an entry of the name is what is found, where no earlier one has it
pub entry_at : (entries : List (NameId × UnitId)) (x k : ℕ) (e : NameId × UnitId) → Stands entries k e → e.0.n ≡ x
    → ((j : ℕ) (d : NameId × UnitId) → Stands entries j d → j < k → d.0.n ≡ x → ⊥) → entry_in entries x ≡ Some e.1.n
entry_at [] x zero e p q n = cc
entry_at [] x (suc k) e p q n = cc
entry_at (d ∷ ds) x zero e p q n =
    let r : d ≡ e = stands_one (d ∷ ds) 0 d e refl p in
    let h : (d.0.n == x) ≡ true = (let w : d.0.n ≡ x = ap (λ (z : NameId × UnitId). z.0.n) r ∙ q in grind (arith, nat_tests)) in
    rw h (ap (λ (z : NameId × UnitId). Some z.1.n) r)
entry_at (d ∷ ds) x (suc k) e p q n = elim (same_or_not d.0.n x) [
  | inl h ↦ absurd (n 0 d refl (omega arith) h.1)
  | inr h ↦ (let w : (d.0.n == x) ≡ false = h.0 in rw w (entry_at ds x k e p q (λ j d' s l. n (suc j) d' s (omega (arith, l)))))
]

-- where no entry has the name, none is found
pub entry_none : (entries : List (NameId × UnitId)) (x : ℕ)
    → ((j : ℕ) (d : NameId × UnitId) → Stands entries j d → d.0.n ≡ x → ⊥) → entry_in entries x ≡ None
entry_none [] x n = refl
entry_none (d ∷ ds) x n = elim (same_or_not d.0.n x) [
  | inl h ↦ absurd (n 0 d refl h.1)
  | inr h ↦ (let w : (d.0.n == x) ≡ false = h.0 in rw w (entry_none ds x (λ j d' s. n (suc j) d' s)))
]

-- The point before which the names are below x, in entries that ascend

module _ (entries : List (NameId × UnitId)) (x at : ℕ)
    (low : IsPartitionPoint (λ y. ltb (entry_name y) x ≡ true) (λ y. ltb (entry_name y) x ≡ false) entries at) where
  -- an entry of the name that stands there is what is found
  pub found_there : (e : NameId × UnitId) → Stands entries at e → e.0.n ≡ x → entry_in entries x ≡ Some e.1.n
  found_there e p q = entry_at entries x at e p q (λ j d s l h. let k = before_low entry_name entries x at low j d s l in omega (arith, k, h))

  -- where an entry of another name stands there, none is found
  pub absent_there : IsNonDecreasingBy entry_name entries → (e : NameId × UnitId) → Stands entries at e
      → (e.0.n ≡ x → ⊥) → entry_in entries x ≡ None
  absent_there a e p q = entry_none entries x (λ j d s h. go j d s h (side at j))
    where
      above : x < e.0.n
      above = let k = from_low entry_name entries x at low at e p (omega arith) in omega (arith, k, q)

      go : (j : ℕ) (d : NameId × UnitId) → Stands entries j d → d.0.n ≡ x → (at ≤ j) ⊎ (j < at) → ⊥
      go j d s h (inr l) = let k = before_low entry_name entries x at low j d s l in omega (arith, k, h)
      go j d s h (inl l) =
          let k = a at j d l (stands_within entries j d s) in
          let r = subst (λ (y : NameId × UnitId). entry_name y ≤ entry_name (slice_index_or entries j d))
          (get_or_from_slice_get entries at e d p) k in
          let t = subst (λ (y : NameId × UnitId). e.0.n ≤ entry_name y) (get_or_from_slice_get entries j d d s) r in
          let b = above in omega (arith, t, h, b)

  -- where nothing stands there, none is found
  pub absent_past : length entries ≤ at → entry_in entries x ≡ None
  absent_past h = entry_none entries x (λ j d s q. let k = before_low entry_name entries x at low j d s (let w = stands_within entries j d s in omega (arith, h, w)) in omega (arith, k, q))

-- The run of nodes of one unit

module _ {A : Type 0} (n : A → ℕ) (xs : List A) (u from : ℕ)
    (low : IsPartitionPoint (λ y. ltb (n y) u ≡ true) (λ y. ltb (n y) u ≡ false) xs from) where
  -- what is of the unit stands from the point on
  pub run_from : (k : ℕ) (d : A) → Stands xs k d → n d ≡ u → from ≤ k
  run_from k d p e = elim (side from k) [ inl h ↦ h | inr h ↦ absurd (let a = before_low n xs u from low k d p h in omega (arith, a, e)) ]

  -- where a node from the point on is of another unit, none from there on is of the unit
  pub run_ends : IsNonDecreasingBy n xs → (place : ℕ) (e : A) → from ≤ place → place < length xs
      → (n (slice_index_or xs place e) ≡ u → ⊥) → (k : ℕ) (d : A) → place ≤ k → Stands xs k d → n d ≡ u → ⊥
  run_ends rises place e f l other k d g p q =
      let a : u ≤ n (slice_index_or xs place e) =
      from_low n xs u from low place (slice_index_or xs place e) (stands_get xs place e l) f in
      let b = subst (λ (y : A). n (slice_index_or xs place e) ≤ n y) (get_or_from_slice_get xs k d e p)
      (rises place k e g (stands_within xs k d p)) in
      omega (arith, a, b, q, other)

-- one more node of the run has another name
pub none_more : {A : Type 0} (x : A → ℕ) (xs : List A) (wanted from place : ℕ) (e : A) → place < length xs
    → (x (slice_index_or xs place e) ≡ wanted → ⊥)
    → ((k : ℕ) (d : A) → from ≤ k → k < place → Stands xs k d → x d ≡ wanted → ⊥) → (k : ℕ) (d : A) → from ≤ k
    → k < place + 1 → Stands xs k d → x d ≡ wanted → ⊥
none_more x xs wanted from place e l n before k d f m q h = elim (side place k) [
  | inl g ↦ (let r : k ≡ place = omega (arith, g, m) in n (ap x (stands_one xs place (slice_index_or xs place e) d (stands_get xs place e l) (subst (λ (i : ℕ). Stands xs i d) r q)) ∙ h))
  | inr g ↦ before k d f g q h
]

-- a node of the unit that has the name is found
pub node_found : {A : Type 0} (node : A → MemNode) (xs : List A) (u x place : ℕ) (e : A) → place < length xs
    → (node (slice_index_or xs place e)).unit.n ≡ u → (node (slice_index_or xs place e)).name.n ≡ x
    → FindsNode node xs u x (Some place)
node_found node xs u x place e l q h = (slice_index_or xs place e, stands_get xs place e l, q, h)

-- none is found where none before a place has the name, and the node at the place is of another unit or there is none
pub none_found : {A : Type 0} (node : A → MemNode) (xs : List A) (u x from place : ℕ)
    → IsPartitionPoint (λ y. ltb (node y).unit.n u ≡ true) (λ y. ltb (node y).unit.n u ≡ false) xs from
    → ((k : ℕ) (d : A) → from ≤ k → k < place → Stands xs k d → (node d).name.n ≡ x → ⊥)
    → ((k : ℕ) (d : A) → place ≤ k → Stands xs k d → (node d).unit.n ≡ u → ⊥) → FindsNode node xs u x None
none_found node xs u x from place low before past k d p q h = elim (side place k) [
  | inl g ↦ past k d g p q
  | inr g ↦ before k d (run_from (λ d. (node d).unit.n) xs u from low k d p q) g p h
]

-- nothing stands behind the end
pub past_end : {A : Type 0} (xs : List A) (place : ℕ) → length xs ≤ place → (k : ℕ) (d : A) → place ≤ k
    → Stands xs k d → ⊥
past_end xs place e k d g p = let l = stands_within xs k d p in omega (arith, e, g, l)

-- what is read at a place below the length stands there
pub item_stands : {A : Type 0} (xs : List A) (k : ℕ) (a : A) → true ≡ nat_lt k (length xs) → a ≡ slice_index_or xs k a
    → Stands xs k a
item_stands {A = A} xs k a h e = subst (λ (z : A). Stands xs k z) (sym e) (stands_get xs k a (grind (arith, nat_tests)))
