-- The operations set by set, and the order of sets number by number.
use Rattle.std.proofs.Common.{◌≡◌, ◌↔◌, ℕ, ◌<◌, Bool, true, false, not, cond, ◌&&◌, ◌||◌, eqb, List, [], ◌∷◌, filter, refl, sym, ap, ap₂, ◌∙◌, subst, arith, lt_irrefl, lt_trans, ⊎_elim, ◌⊎◌, nat_lt, nat_cmp, Ordering, Less, Equal, Greater, eq-eqb, eqb-true, lt-ltb}
use Rattle.std.specs.List.{AllByRecursion, list_any}
use Rattle.std.specs.Ordering.{ordering_then}
use Rattle.std.proofs.Math.Bool.{or-false}
use Rattle.std.proofs.lemmas.Bool.{and_parts}
use Rattle.std.proofs.lemmas.Bool.Decides.{nat_tests}
use Rattle.ar_base.specs.Lists.{IsOneOf}
use Rattle.ar_base.specs.Sets.{Ascends, IsBefore}
use Rattle.ar_base.proofs.Standing.{one_none, one_first, one_rest, one_cases}
use Rattle.ar_base.proofs.Comparing.{three}
use Rattle.zdd_nodes.specs.Families.{Family, same, holds, within, has, without, minimal}
use Rattle.zdd_nodes.specs.FamiliesInside.{order, union, place, meet, minus, having}
use Rattle.zdd_nodes.proofs.Ascending.{IsAscending, is_ascending}
use Rattle.zdd_nodes.proofs.Laws.{same-true, same-refl}
use Rattle.zdd_nodes.proofs.Gates.{flip, order-flip, placed}

-- ---- members
one_above : (x e : ℕ) (s : List ℕ) → AllByRecursion (λ y. x < y) s → IsOneOf s e → x < e
one_above x e [] a i = absurd (one_none e i)
one_above x e (y ∷ s) a i = ⊎_elim (λ t. subst (λ z. x < z) t a.0) (λ j. one_above x e s a.1 j) (one_cases y s e i)

-- nothing at or below the first number is among the others, nor below it among all
one_not_below : (x e : ℕ) (s : List ℕ) → AllByRecursion (λ y. x < y) s → e < x → IsOneOf (x ∷ s) e → ⊥
one_not_below x e s a l i = ⊎_elim (λ t. lt_irrefl x (subst (λ z. z < x) (sym t) l))
    (λ j. lt_irrefl x (lt_trans (one_above x e s a j) l)) (one_cases x s e i)

holds_one : (x : ℕ) (s : List ℕ) → holds x s ≡ true → IsOneOf s x
holds_one x [] h = let wrong : ⊥ = cc in absurd wrong
holds_one x (y ∷ s) h = step (holds_one x s) (eqb x y) refl
  where
    step : (holds x s ≡ true → IsOneOf s x) → (b : Bool) → eqb x y ≡ b → IsOneOf (y ∷ s) x
    step ih true e = subst (λ z. IsOneOf (z ∷ s) x) (eqb-true x y e) (one_first x s)
    step ih false e = one_rest y s x (ih (ap (λ b. b || holds x s) (sym e) ∙ h))

one_holds : (x : ℕ) (s : List ℕ) → IsOneOf s x → holds x s ≡ true
one_holds x [] i = absurd (one_none x i)
one_holds x (y ∷ s) i = ⊎_elim
    (λ t. ap (λ b. b || holds x s) (eq-eqb x y (sym t)))
    (λ j. ap (λ b. eqb x y || b) (one_holds x s j) ∙ or_true (eqb x y))
    (one_cases y s x i)
  where
    or_true : (b : Bool) → (b || true) ≡ true
    or_true true = refl
    or_true false = refl

pub holds_law : (x : ℕ) (s : List ℕ) → (holds x s ≡ true) ↔ IsOneOf s x
holds_law x s = (holds_one x s, one_holds x s)

within_all : (s t : List ℕ) → within s t ≡ true → (x : ℕ) → IsOneOf s x → IsOneOf t x
within_all [] t h x i = absurd (one_none x i)
within_all (y ∷ s) t h x i =
    let p = and_parts (holds y t) (within s t) h in
    ⊎_elim (λ e. subst (IsOneOf t) e (holds_one y t p.0)) (λ j. within_all s t p.1 x j) (one_cases y s x i)

all_within : (s t : List ℕ) → ((x : ℕ) → IsOneOf s x → IsOneOf t x) → within s t ≡ true
all_within [] t h = refl
all_within (y ∷ s) t h = ap₂ (λ a b. a && b) (one_holds y t (h y (one_first y s)))
    (all_within s t (λ x i. h x (one_rest y s x i)))

pub within_law : (s t : List ℕ) → (within s t ≡ true) ↔ ((x : ℕ) → IsOneOf s x → IsOneOf t x)
within_law s t = (within_all s t, all_within s t)

pub same_law : (s t : List ℕ) → (same s t ≡ true) ↔ (s ≡ t)
same_law s t = (same-true s t, λ e. subst (λ x. same s x ≡ true) e (same-refl s))

-- ---- the order
cmp_less : (x y : ℕ) → x < y → nat_cmp x y ≡ Less
cmp_less x y h = ap (λ b. cond b Less (cond (eqb x y) Equal Greater)) (lt-ltb x y h)

cmp_greater : (x y : ℕ) → y < x → nat_cmp x y ≡ Greater
cmp_greater x y h = grind (arith, nat_tests)

cmp_same : (x : ℕ) → nat_cmp x x ≡ Equal
cmp_same x = let h : nat_lt x x ≡ false = grind (arith, nat_tests) in ap₂ (λ b c. cond b Less (cond c Equal Greater)) h (eq-eqb x x refl)

then_is : (a b c : Ordering) → a ≡ b → ordering_then a c ≡ ordering_then b c
then_is a b c e = ap (λ o. ordering_then o c) e

order_same : (x y : ℕ) (s t : List ℕ) → x ≡ y → order (x ∷ s) (y ∷ t) ≡ order s t
order_same x y s t e = then_is (nat_cmp x y) Equal (order s t) (ap (nat_cmp x) (sym e) ∙ cmp_same x)

before_same : (x y : ℕ) (s t : List ℕ) → x ≡ y → AllByRecursion (λ z. x < z) s → IsBefore s t → IsBefore (x ∷ s) (y ∷ t)
before_same x y s t e a p = record {
  least = p.least;
  in_first = one_rest x s p.least p.in_first;
  not_in_second = λ i. ⊎_elim (λ h. lt_irrefl x
      (subst (λ z. x < z) (sym h ∙ sym e) (one_above x p.least s a p.in_first))) (λ j. p.not_in_second j)
      (one_cases y t p.least i);
  same_below = λ z l. (
    (λ i. ⊎_elim (λ h. subst (λ w. IsOneOf (y ∷ t) w) (sym (sym h ∙ e)) (one_first y t))
        (λ j. one_rest y t z ((p.same_below z l).0 j)) (one_cases x s z i)),
    (λ i. ⊎_elim (λ h. subst (λ w. IsOneOf (x ∷ s) w) (sym (sym h ∙ sym e)) (one_first x s))
        (λ j. one_rest x s z ((p.same_below z l).1 j)) (one_cases y t z i)),
  );
}

less_before : (s t : List ℕ) → IsAscending s → IsAscending t → order s t ≡ Less → IsBefore s t
less_before [] [] a b h = let wrong : ⊥ = cc in absurd wrong
less_before [] (y ∷ t) a b h = let wrong : ⊥ = cc in absurd wrong
less_before (x ∷ s) [] a b h = record {
  least = x;
  in_first = one_first x s;
  not_in_second = one_none x;
  same_below = λ z l. ((λ i. absurd (one_not_below x z s a.0 l i)), (λ i. absurd (one_none z i)));
}
less_before (x ∷ s) (y ∷ t) a b h =
    ⊎_elim below (λ r. ⊎_elim (equal (λ g. less_before s t a.1 b.1 g)) above r) (three x y)
  where
    below : x < y → IsBefore (x ∷ s) (y ∷ t)
    below l = record {
      least = x;
      in_first = one_first x s;
      not_in_second = one_not_below y x t b.0 l;
      same_below = λ z m. (
        (λ i. absurd (one_not_below x z s a.0 m i)),
        (λ i. absurd (one_not_below y z t b.0 (lt_trans m l) i)),
      );
    }

    equal : (order s t ≡ Less → IsBefore s t) → x ≡ y → IsBefore (x ∷ s) (y ∷ t)
    equal rest e = before_same x y s t e a.0 (rest (sym (order_same x y s t e) ∙ h))

    above : y < x → IsBefore (x ∷ s) (y ∷ t)
    above l = let g : order (x ∷ s) (y ∷ t) ≡ Greater = then_is (nat_cmp x y) Greater (order s t) (cmp_greater x y l) in let wrong : ⊥ = cc in absurd wrong

pub order_equal : (s t : List ℕ) → order s t ≡ Equal → s ≡ t
order_equal [] [] h = refl
order_equal [] (y ∷ t) h = let wrong : ⊥ = cc in absurd wrong
order_equal (x ∷ s) [] h = let wrong : ⊥ = cc in absurd wrong
order_equal (x ∷ s) (y ∷ t) h = ⊎_elim below (λ r. ⊎_elim (equal (λ g. order_equal s t g)) above r) (three x y)
  where
    below : x < y → x ∷ s ≡ y ∷ t
    below l = let g : order (x ∷ s) (y ∷ t) ≡ Less = then_is (nat_cmp x y) Less (order s t) (cmp_less x y l) in let wrong : ⊥ = cc in absurd wrong

    equal : (order s t ≡ Equal → s ≡ t) → x ≡ y → x ∷ s ≡ y ∷ t
    equal rest e = ap₂ (λ z u. z ∷ u) e (rest (sym (order_same x y s t e) ∙ h))

    above : y < x → x ∷ s ≡ y ∷ t
    above l = let g : order (x ∷ s) (y ∷ t) ≡ Greater = then_is (nat_cmp x y) Greater (order s t) (cmp_greater x y l) in let wrong : ⊥ = cc in absurd wrong

one_way : (s t : List ℕ) → IsBefore s t → IsBefore t s → ⊥
one_way s t p q = ⊎_elim
    (λ l. p.not_in_second ((q.same_below p.least l).1 p.in_first))
    (λ r. ⊎_elim
    (λ e. q.not_in_second (subst (IsOneOf s) e p.in_first))
    (λ l. q.not_in_second ((p.same_below q.least l).1 q.in_first))
    r)
    (three p.least q.least)

before_less : (s t : List ℕ) → IsAscending s → IsAscending t → IsBefore s t → order s t ≡ Less
before_less s t a b p = step (order s t) refl
  where
    step : (o : Ordering) → order s t ≡ o → order s t ≡ Less
    step Less e = e
    step Equal e = absurd (p.not_in_second (subst (λ u. IsOneOf u p.least) (order_equal s t e) p.in_first))
    step Greater e = absurd (one_way s t p (less_before t s b a (order-flip s t ∙ ap flip e)))

pub order_law : (s t : List ℕ) → Ascends s → Ascends t → ((order s t ≡ Less) ↔ IsBefore s t)
order_law s t a b = (
  less_before s t (is_ascending s a) (is_ascending t b),
  before_less s t (is_ascending s a)
      (is_ascending t b),
)

-- ---- the operations
or_both : (a b c : Bool) → (a || (b || c)) ≡ ((a || b) || (a || c))
or_both true b c = refl
or_both false b c = refl

or_assoc : (a b c : Bool) → (a || (b || c)) ≡ ((a || b) || c)
or_assoc true b c = refl
or_assoc false b c = refl

or_swap : (a b c : Bool) → (a || (b || c)) ≡ (b || (a || c))
or_swap true true c = refl
or_swap true false c = refl
or_swap false b c = refl

has_place : (s u : List ℕ) (f : Family) → ((g : Family) → has (union f g) s ≡ (has f s || has g s)) → (g : Family)
    → has (place u (union f) f g) s ≡ ((same s u || has f s) || has g s)
has_place s u f ih [] = sym (or-false (same s u || has f s))
has_place s u f ih (t ∷ g) = step (has_place s u f ih g) (order u t) refl
  where
    step : has (place u (union f) f g) s ≡ ((same s u || has f s) || has g s) → (o : Ordering) → order u t ≡ o
        → has (placed (order u t) u t (union f) f g) s ≡ ((same s u || has f s) || (same s t || has g s))
    step rest Less e = ap (λ o. has (placed o u t (union f) f g) s) e ∙ ap (λ b. same s u || b) (ih (t ∷ g))
        ∙ or_assoc (same s u) (has f s) (same s t || has g s)
    step rest Equal e = ap (λ o. has (placed o u t (union f) f g) s) e ∙ ap (λ b. same s u || b) (ih g)
        ∙ or_both (same s u) (has f s) (has g s)
        ∙ ap (λ x. (same s u || has f s) || (same s x || has g s)) (order_equal u t e)
    step rest Greater e = ap (λ o. has (placed o u t (union f) f g) s) e ∙ ap (λ b. same s t || b) rest
        ∙ or_swap (same s t) (same s u || has f s) (has g s)

pub has-union : (f g : Family) (s : List ℕ) → has (union f g) s ≡ (has f s || has g s)
unfolding union
has-union [] g s = refl
has-union (u ∷ f) g s = has_place s u f (λ h. has-union f h s) g

pub has-filter : (q : List ℕ → Bool) (s : List ℕ) (f : Family) → has (filter q f) s ≡ (has f s && q s)
has-filter q s [] = refl
has-filter q s (u ∷ f) = step (has-filter q s f) (same s u) refl (q u) refl
  where
    step : has (filter q f) s ≡ (has f s && q s) → (a : Bool) → same s u ≡ a → (b : Bool) → q u ≡ b
        → has (cond (q u) (u ∷ filter q f) (filter q f)) s ≡ ((same s u || has f s) && q s)
    step ih true e true h =
        let w : q s ≡ true = ap q (same-true s u e) ∙ h in
        ap (λ b. has (cond b (u ∷ filter q f) (filter q f)) s) h ∙ ap (λ b. b || has (filter q f) s) e
        ∙ sym (ap₂ (λ a b. (a || has f s) && b) e w)
    step ih true e false h =
        let w : q s ≡ false = ap q (same-true s u e) ∙ h in
        ap (λ b. has (cond b (u ∷ filter q f) (filter q f)) s) h ∙ ih ∙ ap (λ b. has f s && b) w ∙ and_false (has f s)
        ∙ sym (ap₂ (λ a b. (a || has f s) && b) e w)
      where
        and_false : (b : Bool) → (b && false) ≡ false
        and_false true = refl
        and_false false = refl
    step ih false e true h = ap (λ b. has (cond b (u ∷ filter q f) (filter q f)) s) h
        ∙ ap (λ b. b || has (filter q f) s) e ∙ ih ∙ sym (ap (λ a. (a || has f s) && q s) e)
    step ih false e false h = ap (λ b. has (cond b (u ∷ filter q f) (filter q f)) s) h ∙ ih
        ∙ sym (ap (λ a. (a || has f s) && q s) e)

pub has-meet : (f g : Family) (s : List ℕ) → has (meet f g) s ≡ (has f s && has g s)
unfolding meet
has-meet f g s = has-filter (has g) s f

pub has-minus : (f g : Family) (s : List ℕ) → has (minus f g) s ≡ (has f s && not (has g s))
unfolding minus
has-minus f g s = has-filter (λ u. not (has g u)) s f

pub has-having : (f : Family) (e : ℕ) (s : List ℕ) → has (having f e) s ≡ (has f s && holds e s)
unfolding having
has-having f e s = has-filter (holds e) s f

pub has-without : (f g : Family) (s : List ℕ) → has (without f g) s ≡ (has f s && not (list_any (λ t. within t s) g))
unfolding without
has-without f g s = has-filter (λ u. not (list_any (λ t. within t u) g)) s f

pub has-minimal : (f : Family) (s : List ℕ)
    → has (minimal f) s ≡ (has f s && not (list_any (λ t. within t s && not (same t s)) f))
unfolding minimal
has-minimal f s = has-filter (λ u. not (list_any (λ t. within t u && not (same t u)) f)) s f
