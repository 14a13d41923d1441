-- Values of two lists that ascend: their ends decide an order.
use Rattle.std.proofs.Common.{◌≡◌, ◌<◌, ◌-◌, ◌↔◌, ℕ, Bool, true, false, not, ◌||◌, IsTrue, List, [], ◌∷◌, length, Contains, get_or, zero, suc, slice_get, Some, refl, sym, ap, ◌∙◌, subst, ◌⊎◌, inl, inr, arith}
use Rattle.std.proofs.lemmas.Option.{get_or_from_slice_get}
use Rattle.std.proofs.lemmas.Bool.{cases_lt}
use Rattle.std.proofs.lemmas.List.{get_or_default}
use Rattle.domains.specs.Values.{is_before, IsAscending}
use Rattle.domains.specs.declared.Value.{Value}
use Rattle.domains.proofs.Members.{contains-one, first-in, pairs-head}
use Rattle.domains.proofs.Order.{is_before-trans}
use Rattle.typed_expr.specs.Evaluating.{SomeRelated}
use Rattle.typed_expr.specs.Sets.{GoesAt}
use Rattle.typed_expr.specs.declared.expr.Relation.{Relation}
use Rattle.typed_expr.specs.declared.expr.Relation.TheVariants.{Differs, Less, AtMost}

-- the first value is the second, or comes before it
abbrev pub UpTo : Value → Value → Type 0
UpTo x y = (x ≡ y) ⊎ (is_before x y ≡ true)

up_before : (x y z : Value) → UpTo x y → is_before y z ≡ true → is_before x z ≡ true
up_before x y z (inl e) h = subst (λ (w : Value). is_before w z ≡ true) (sym e) h
up_before x y z (inr k) h = is_before-trans x y z k h

before_up : (x y z : Value) → is_before x y ≡ true → UpTo y z → is_before x z ≡ true
before_up x y z h (inl e) = subst (λ (w : Value). is_before x w ≡ true) e h
before_up x y z h (inr k) = is_before-trans x y z h k

-- nothing stands before the first value
pub least : (xs : List Value) (x v : Value) → IsAscending xs → slice_get xs 0 ≡ Some x → Contains xs v → UpTo x v
least [] x v a e m = cc
least (y ∷ xs) x v a e (k, h, i) = at k h i
  where
    at : (k : ℕ) → k < length (y ∷ xs) → get_or (y ∷ xs) k v ≡ v → UpTo x v
    at zero h i = let j : y ≡ x = cc in inl (sym j ∙ i)
    at (suc k) h i = let j : y ≡ x = cc in inr (subst (λ (w : Value). is_before w v ≡ true) j
        (pairs-head (λ a b. is_before a b ≡ true) y xs a v (k, omega (arith, h), i)))

-- the last item of a list
last_is : (xs : List Value) (x d : Value) → slice_get xs (length xs - 1) ≡ Some x → get_or xs (length xs - 1) d ≡ x
last_is xs x d e = get_or_from_slice_get xs (length xs - 1) x d e

pub last-in : (xs : List Value) (x : Value) → slice_get xs (length xs - 1) ≡ Some x → Contains xs x
last-in [] x e = cc
last-in (y ∷ xs) x e = (length (y ∷ xs) - 1, omega arith, last_is (y ∷ xs) x x e)

-- and nothing behind the last
pub greatest : (xs : List Value) (x v : Value) → IsAscending xs → slice_get xs (length xs - 1) ≡ Some x
    → Contains xs v → UpTo v x
greatest xs x v a e (k, h, i) =
    elim (cases_lt k (length xs - 1)) [
      | inl l ↦
          let b = a k (length xs - 1) v l (omega (arith, h)) in
          inr (subst (λ (w : Value). is_before w x ≡ true) i
          (subst (λ (w : Value). is_before (get_or xs k v) w ≡ true) (last_is xs x v e) b))
      | inr l ↦
          let j : k ≡ length xs - 1 = omega (arith, h, l) in
          inl (sym i ∙ ap (λ (n : ℕ). get_or xs n v) j ∙ last_is xs x v e)
    ]

-- what the last value comes before goes in behind it
pub goes-past : (xs : List Value) (x v : Value) → IsAscending xs → slice_get xs (length xs - 1) ≡ Some x
    → is_before x v ≡ true → GoesAt xs v (length xs)
goes-past xs x v a e b = record {
  within = omega arith;
  lower = λ k d l i. up_before (get_or xs k d) x v
      (greatest xs x (get_or xs k d) a e (k, i, get_or_default xs k (get_or xs k d) d i)) b;
  upper = λ k d i j. absurd (omega (arith, i, j));
}

module _ (xs ys : List Value) (x y : Value) (a : IsAscending xs) (b : IsAscending ys)
    (first : slice_get xs 0 ≡ Some x) (last : slice_get ys (length ys - 1) ≡ Some y) where
  pub some-before : IsTrue (is_before x y) ↔ SomeRelated Less xs ys true
  some-before = (
    (λ h. record { left = x; right = y; in_left = first-in xs x first; in_right = last-in ys y last; related = h }),
    (λ s. up_before x s.left y (least xs x s.left a first s.in_left)
        (before_up s.left s.right y s.related (greatest ys y s.right b last s.in_right))),
  )

  pub some-not_after : IsTrue (not (is_before y x)) ↔ SomeRelated AtMost xs ys true
  some-not_after = (
    (λ h. record { left = x; right = y; in_left = first-in xs x first; in_right = last-in ys y last; related = h }),
    (λ s. so (is_before y x) refl s),
  ) where
    so : (t : Bool) → is_before y x ≡ t → SomeRelated AtMost xs ys true → IsTrue (not t)
    so false e s = refl
    so true e s =
        let u : is_before s.right s.left ≡ true = up_before s.right y s.left
        (greatest ys y s.right b last s.in_right)
        (before_up y x s.left e (least xs x s.left a first s.in_left)) in
        let r : not (is_before s.right s.left) ≡ true = s.related in
        let n : not true ≡ true = subst (λ (z : Bool). not z ≡ true) u r in
        absurd (cc n)

-- where an item is so related to one of the other list, a value of each is
pub item-related : (r : Relation) (xs ys : List Value) (i : ℕ) (d : Value) → i < length xs
    → SomeRelated r (get_or xs i d ∷ []) ys true → IsTrue true ↔ SomeRelated r xs ys true
item-related r xs ys i d h s = (
  (λ t. record {
    left = s.left;
    right = s.right;
    in_right = s.in_right;
    related = s.related;
    in_left = subst (λ (v : Value). Contains xs v) (contains-one (get_or xs i d) s.left s.in_left) (i, h, get_or_default xs i (get_or xs i d) d h);
  }),
  (λ k. refl),
)

module _ (xs ys : List Value) where
  -- values differ where one comes before the other
  pub some-differ : (result lower higher : Bool) → (IsTrue result ↔ (IsTrue lower ⊎ IsTrue higher))
      → IsTrue lower ↔ SomeRelated Less xs ys true → IsTrue higher ↔ SomeRelated Less ys xs true
      → IsTrue result ↔ SomeRelated Differs xs ys true
  some-differ result lower higher e l h = (
    (λ t. elim (e.0 t) [
      | inl i ↦ let s = l.0 i in record {
        left = s.left;
        right = s.right;
        in_left = s.in_left;
        in_right = s.in_right;
        related = ap (λ (z : Bool). z || is_before s.right s.left) s.related;
      }
      | inr i ↦ let s = h.0 i in record {
        left = s.right;
        right = s.left;
        in_left = s.in_right;
        in_right = s.in_left;
        related = second (is_before s.right s.left) (is_before s.left s.right) s.related;
      }
    ]),
    (λ s. e.1 (elim (one (is_before s.left s.right) (is_before s.right s.left) s.related) [
      | inl i ↦ inl (l.1 (record {
        left = s.left;
        right = s.right;
        in_left = s.in_left;
        in_right = s.in_right;
        related = i;
      }))
      | inr i ↦ inr (h.1 (record {
        left = s.right;
        right = s.left;
        in_left = s.in_right;
        in_right = s.in_left;
        related = i;
      }))
    ])),
  ) where
    second : (a b : Bool) → b ≡ true → a || b ≡ true
    second true b e = refl
    second false b e = e

    one : (a b : Bool) → a || b ≡ true → (a ≡ true) ⊎ (b ≡ true)
    one true b e = inl refl
    one false b e = inr e
