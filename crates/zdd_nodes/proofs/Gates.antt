use Rattle.std.proofs.Common.{◌≡◌, ℕ, Bool, true, false, cond, ◌||◌, List, [], ◌∷◌, filter, refl, sym, ap, ap₂, ◌∙◌, arith, nat_lt, nat_cmp, Ordering, Less, Equal, Greater, eq-eqb}
use Rattle.std.specs.List.{AllByRecursion}
use Rattle.std.specs.Ordering.{ordering_then}
use Rattle.std.proofs.lemmas.Bool.Decides.{nat_tests}
use Rattle.zdd_nodes.specs.Families.{Family}
use Rattle.zdd_nodes.specs.FamiliesInside.{order, IsInOrder, place, union}
use Rattle.zdd_nodes.proofs.Laws.{union-nil, each-filter}

abbrev pub flip : Ordering → Ordering
flip Less = Greater
flip Equal = Equal
flip Greater = Less

pub order-refl : (s : List ℕ) → order s s ≡ Equal
order-refl [] = refl
order-refl (x ∷ s) = let h : nat_lt x x ≡ false = grind (arith, nat_tests) in
    ap₂ (λ b c. ordering_then (cond b Less (cond c Equal Greater)) (order s s)) h (eq-eqb x x refl) ∙ order-refl s

then-flip : (a b c d : Ordering) → c ≡ flip a → d ≡ flip b → ordering_then c d ≡ flip (ordering_then a b)
then-flip Less b c d e f = ap (λ x. ordering_then x d) e
then-flip Equal b c d e f = ap (λ x. ordering_then x d) e ∙ f
then-flip Greater b c d e f = ap (λ x. ordering_then x d) e

cmp-flip : (x y : ℕ) → nat_cmp y x ≡ flip (nat_cmp x y)
cmp-flip x y = grind (arith, nat_tests)

pub order-flip : (s t : List ℕ) → order t s ≡ flip (order s t)
order-flip [] [] = refl
order-flip [] (y ∷ t) = refl
order-flip (x ∷ s) [] = refl
order-flip (x ∷ s) (y ∷ t) = then-flip (nat_cmp x y) (order s t) (nat_cmp y x) (order t s) (cmp-flip x y)
    (order-flip s t)

abbrev pub placed : Ordering → List ℕ → List ℕ → (Family → Family) → Family → Family → Family
placed o s t rest f g = elim o [ Less ↦ s ∷ rest (t ∷ g) | Equal ↦ s ∷ rest g | Greater ↦ t ∷ place s rest f g ]

-- a set before all of g
place-first : (s : List ℕ) (f g : Family) → AllByRecursion (λ t. order s t ≡ Less) g
    → place s (union f) f g ≡ s ∷ union f g
place-first s f [] a = ap (λ x. s ∷ x) (sym (union-nil f))
place-first s f (t ∷ g) a = ap (λ o. placed o s t (union f) f g) a.0

union-later : (s : List ℕ) (f g : Family) → AllByRecursion (λ t. order s t ≡ Less) f → union f (s ∷ g) ≡ s ∷ union f g
unfolding union
union-later s [] g a = refl
union-later s (u ∷ f) g a = ap (λ o. placed o u s (union f) f g) (order-flip s u ∙ ap flip a.0)

pub union-filters : (p q : List ℕ → Bool) (f : Family) → IsInOrder f
    → union (filter p f) (filter q f) ≡ filter (λ s. p s || q s) f
unfolding union
union-filters p q [] o = refl
union-filters p q (s ∷ f) o =
    elim (p s) as (λ b. union (cond b (s ∷ filter p f) (filter p f)) (cond (q s) (s ∷ filter q f) (filter q f))
    ≡ cond (b || q s) (s ∷ filter (λ s. p s || q s) f) (filter (λ s. p s || q s) f)) [
      | true ↦ elim (q s) as (λ c. place s (union (filter p f)) (filter p f) (cond c (s ∷ filter q f) (filter q f))
          ≡ s ∷ filter (λ s. p s || q s) f) [
            | true ↦ ap (λ o. placed o s s (union (filter p f)) (filter p f) (filter q f)) (order-refl s)
                ∙ ap (λ x. s ∷ x) (union-filters p q f o.1)
            | false ↦ place-first s (filter p f) (filter q f) (each-filter (λ t. order s t ≡ Less) q f o.0)
                ∙ ap (λ x. s ∷ x) (union-filters p q f o.1)
          ]
      | false ↦ elim (q s) as (λ c. union (filter p f) (cond c (s ∷ filter q f) (filter q f))
          ≡ cond c (s ∷ filter (λ s. p s || q s) f) (filter (λ s. p s || q s) f)) [
            | true ↦ union-later s (filter p f) (filter q f) (each-filter (λ t. order s t ≡ Less) p f o.0)
                ∙ ap (λ x. s ∷ x) (union-filters p q f o.1)
            | false ↦ union-filters p q f o.1
          ]
    ]
