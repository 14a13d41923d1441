-- One more value in an ascending list.
use Rattle.std.proofs.Common.{◌≡◌, ℕ, ◌+◌, ◌<◌, ◌≤◌, Bool, true, false, List, [], ◌∷◌, length, insert, Contains, get_or, Option, Some, None, MatchOption, Result, Ok, Err, OnOk, OnErr, zero, suc, sym, subst, ◌⊎◌, inl, inr, arith}
use Rattle.std.specs.Prelude.{⊤}
use Rattle.std.specs.List.{AllWithin}
use Rattle.std.specs.List.Sorted.{IsPartitionPoint}
use Rattle.std.proofs.lemmas.Bool.{cases_lt, false_from_ne_true}
use Rattle.std.proofs.lemmas.List.{get_or_default}
use Rattle.std.proofs.lemmas.List.Edits.{length-insert}
use Rattle.domains.specs.Values.{is_before, IsAscending}
use Rattle.domains.specs.declared.Value.{Value}
use Rattle.domains.proofs.Members.{contains-head, contains-cons, contains-cases, nothing-in}
use Rattle.domains.proofs.Order.{Ascends, ascends-from, ascending-from, is_before-trans}
use Rattle.typed_expr.specs.Sets.{AddsValue, GoesAt, AtLimit, Inserts}

pub insert-cases : {X : Type 0} (xs : List X) (n : ℕ) (v d : X) → Contains (insert xs n v) d → (v ≡ d) ⊎ Contains xs d
insert-cases xs zero v d m = contains-cases v d xs m
insert-cases [] (suc n) v d m = contains-cases v d [] m
insert-cases (x ∷ xs) (suc n) v d m =
    elim (contains-cases x d (insert xs n v) m) [
      | inl e ↦ inr (let P : _ → Type 0 = λ z. Contains (x ∷ xs) z in subst P e (contains-head x xs))
      | inr k ↦ elim (insert-cases xs n v d k) [ inl e ↦ inl e | inr l ↦ inr (contains-cons x d xs l) ]
    ]

pub insert-has : {X : Type 0} (xs : List X) (n : ℕ) (v : X) → Contains (insert xs n v) v
insert-has xs zero v = contains-head v xs
insert-has [] (suc n) v = contains-head v []
insert-has (x ∷ xs) (suc n) v = contains-cons x v (insert xs n v) (insert-has xs n v)

pub insert-keeps : {X : Type 0} (xs : List X) (n : ℕ) (v d : X) → Contains xs d → Contains (insert xs n v) d
insert-keeps xs zero v d m = contains-cons v d xs m
insert-keeps [] (suc n) v d m = absurd (nothing-in d m)
insert-keeps (x ∷ xs) (suc n) v d m =
    elim (contains-cases x d xs m) [
      | inl e ↦ let P : _ → Type 0 = λ z. Contains (x ∷ insert xs n v) z in subst P e (contains-head x (insert xs n v))
      | inr k ↦ contains-cons x d (insert xs n v) (insert-keeps xs n v d k)
    ]

pub adds-insert : (xs : List Value) (n : ℕ) (v : Value) → AddsValue xs v (insert xs n v)
adds-insert xs n v = record {
  kept = insert-keeps xs n v;
  added = insert-has xs n v;
  only = λ d m. elim (insert-cases xs n v d m) [ inl e ↦ inr (sym e) | inr k ↦ inl k ];
}

pub ascends-insert : (xs : List Value) (n : ℕ) (v : Value) → n ≤ length xs
    → ((k : ℕ) (d : Value) → k < n → is_before (get_or xs k d) v ≡ true)
    → ((k : ℕ) (d : Value) → n ≤ k → k < length xs → is_before v (get_or xs k d) ≡ true) → Ascends xs
    → Ascends (insert xs n v)
ascends-insert [] zero v h f g a = ((λ y m. absurd (nothing-in y m)), tt)
ascends-insert [] (suc n) v h f g a = absurd (omega (arith, h))
ascends-insert (x ∷ xs) zero v h f g a = (
  (λ y m. elim (contains-cases x y xs m) [
    | inl e ↦ let P : Value → Type 0 = λ z. is_before v z ≡ true in subst P e (g zero x (omega arith) (omega arith))
    | inr k ↦ is_before-trans v x y (g zero x (omega arith) (omega arith)) (a.0 y k)
  ]),
  a,
)
ascends-insert (x ∷ xs) (suc n) v h f g a = (
  (λ y m. elim (insert-cases xs n v y m) [
    | inl e ↦ let P : Value → Type 0 = λ z. is_before x z ≡ true in subst P e (f zero x (omega arith))
    | inr k ↦ a.0 y k
  ]),
  ascends-insert xs n v (omega (arith, h)) (λ k d l. f (suc k) d (omega (arith, l)))
      (λ k d l i. g (suc k) d (omega (arith, l)) (omega (arith, i))) a.1,
)

pub ascending-insert : (xs : List Value) (n : ℕ) (v : Value) → GoesAt xs v n → IsAscending xs
    → IsAscending (insert xs n v)
ascending-insert xs n v g a =
    ascending-from (insert xs n v)
    (ascends-insert xs n v g.within (λ k d l. g.lower k d (omega arith) l) (λ k d l i. g.upper k d l i)
    (ascends-from xs a))

-- the values before a value stand before the others
pub partitioned : (xs : List Value) (v : Value) → IsAscending xs → (i j : ℕ) (d : Value) → i ≤ j → j < length xs
    → is_before (get_or xs j d) v ≡ true → is_before (get_or xs i d) v ≡ true
partitioned xs v a i j d h l b =
    elim (cases_lt i j) [
      | inl k ↦ is_before-trans (get_or xs i d) (get_or xs j d) v (a i j d k l) b
      | inr k ↦ let e : i ≡ j = omega arith in rw e b
    ]

-- where a value comes before, so do those up to it
pub lower-grows : (xs : List Value) (v : Value) (m : ℕ) → IsAscending xs → m < length xs
    → ((d : Value) → is_before (get_or xs m d) v ≡ true)
    → AllWithin (λ y. is_before y v ≡ true) xs 0 (m + 1)
lower-grows xs v m a h b k d l i = partitioned xs v a k m d (omega arith) h (b d)

-- where a value does not come before, neither do those from it on
pub upper-grows : (xs : List Value) (v : Value) (m : ℕ) → IsAscending xs
    → ((d : Value) → is_before (get_or xs m d) v ≡ false)
    → AllWithin (λ y. is_before y v ≡ false) xs m (length xs)
upper-grows xs v m a b k d l i =
    false_from_ne_true (is_before (get_or xs k d) v) (λ e. let f = partitioned xs v a m k d l i e in let g = b d in cc)

at_later : (xs : List Value) (v : Value) (n k : ℕ) (d : Value) → IsAscending xs → k < length xs → n ≤ k
    → is_before v (get_or xs n d) ≡ true → is_before v (get_or xs k d) ≡ true
at_later xs v n k d a i l b =
    elim (cases_lt n k) [
      | inl j ↦ is_before-trans v (get_or xs n d) (get_or xs k d) b (a n k d j i)
      | inr j ↦ let f : k ≡ n = omega arith in rw f b
    ]

-- where a later value stands at the place, the value goes in there
pub goes-at : (xs : List Value) (v x : Value) (n : ℕ) → IsAscending xs → n ≤ length xs
    → IsPartitionPoint (λ y. is_before y v ≡ true) (λ y. is_before y v ≡ false) xs n
    → ((d : Value) → x ≡ get_or xs n d) → is_before v x ≡ true → GoesAt xs v n
goes-at xs v x n a h p e b = record {
  within = h;
  lower = p.0;
  upper = λ k d l i. at_later xs v n k d a i l (let P : Value → Type 0 = λ z. is_before v z ≡ true in subst P (e d) b);
}

-- at the end of the list nothing is later
pub goes-last : (xs : List Value) (v : Value) (n : ℕ) → n ≤ length xs → length xs ≤ n
    → IsPartitionPoint (λ y. is_before y v ≡ true) (λ y. is_before y v ≡ false) xs n → GoesAt xs v n
goes-last xs v n h l p = record { within = h; lower = p.0; upper = λ k d i j. absurd (omega arith) }

pub refuses : (most : Option ℕ) (xs : List Value) (v : Value) (n len : ℕ) → GoesAt xs v n → IsAscending xs
    → len ≡ length xs → AtLimit most (λ m. m ≤ len)
    → AtLimit most (λ m. (new : List Value) × AddsValue xs v new × IsAscending new × (m < length new))
refuses None xs v n len g a e h = h
refuses (Some m) xs v n len g a e h =
    (insert xs n v, adds-insert xs n v, ascending-insert xs n v g a, rw (length-insert xs n v g.within) (omega arith))

pub inserts : (most : Option ℕ) (xs : List Value) (v : Value) (n len : ℕ) → GoesAt xs v n → len ≡ length xs
    → MatchOption most ⊤ (λ m. len < m) → Inserts most xs v (insert xs n v)
inserts None xs v n len g e h = (adds-insert xs n v, λ k. tt)
inserts (Some m) xs v n len g e h = (adds-insert xs n v, λ k. rw (length-insert xs n v g.within) (omega arith))

pub either_way : {T E A B P : Type 0} (r : Result T E) → OnOk r A → OnErr r B → (A → P) → (B → P) → P
either_way (Ok v) h k f g = f h
either_way (Err e) h k f g = g k

pub on_ok : {T E P : Type 0} (r : Result T E) (v : T) → r ≡ Ok v → P → OnOk r P
on_ok r v e p = rw e p

pub on_err : {T E : Type 0} (P : Type 0) (r : Result T E) (v : E) → r ≡ Err v → OnOk r P
on_err P r v e = rw e tt

-- an item at a place in the list is the same with any default
pub at-any : (xs : List Value) (v : Value) (m : ℕ) (e : Value) (b : Bool) → m < length xs
    → is_before (get_or xs m e) v ≡ b → (d : Value) → is_before (get_or xs m d) v ≡ b
at-any xs v m e b h i d = let P : Value → Type 0 = λ z. is_before z v ≡ b in subst P (get_or_default xs m e d h) i
