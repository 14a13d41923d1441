use Rattle.std.proofs.Common.{◌≡◌, ℕ, ◌<◌, Bool, true, false, not, cond, ◌&&◌, ◌||◌, eqb, List, [], ◌∷◌, ◌++◌, map, refl, sym, ap, ap₂, ◌∙◌, subst, arith, lt_irrefl, lt_trans, eqb-true, eq-eqb, filter, nat_lt, Ordering, Less, Equal, Greater, ne_eqb, lt-ltb}
use Rattle.std.specs.List.{AllByRecursion, list_any}
use Rattle.std.specs.Ordering.{ordering_then}
use Rattle.std.proofs.lemmas.List.Elements.{filter-append}
use Rattle.std.proofs.lemmas.Bool.{and_parts}
use Rattle.std.proofs.lemmas.Bool.Decides.{nat_tests}
use Rattle.std.proofs.Math.Bool.{or-false}
use Rattle.std.proofs.lemmas.List.Folds.{list_any-append}
use Rattle.zdd_nodes.specs.Families.{Family, same, holds, within, has, without, minimal}
use Rattle.zdd_nodes.specs.FamiliesInside.{order, node, IsAbove, meet, minus, having, place, union}

abbrev pub IsAbove_set : ℕ → List ℕ → Type 0
IsAbove_set v s = AllByRecursion (λ x. v < x) s

pub eqb-refl : (x : ℕ) → eqb x x ≡ true
eqb-refl x = eq-eqb x x refl

pub eqb-above : (v x : ℕ) → v < x → eqb v x ≡ false
eqb-above v x h = ne_eqb v x (λ e. lt_irrefl v (subst (λ y. v < y) (sym e) h))

eqb-below : (v x : ℕ) → v < x → eqb x v ≡ false
eqb-below v x h = ne_eqb x v (λ e. lt_irrefl v (subst (λ y. v < y) e h))

-- ---- filters
filter-map : (v : ℕ) (p : List ℕ → Bool) (f : Family)
    → filter p (map (λ s. v ∷ s) f) ≡ map (λ s. v ∷ s) (filter (λ s. p (v ∷ s)) f)
filter-map v p [] = refl
filter-map v p (s ∷ f) = elim (p (v ∷ s)) as
    (λ b. cond b ((v ∷ s) ∷ filter p (map (λ s. v ∷ s) f)) (filter p (map (λ s. v ∷ s) f))
    ≡ map (λ s. v ∷ s) (cond b (s ∷ filter (λ s. p (v ∷ s)) f) (filter (λ s. p (v ∷ s)) f)))
    [ true ↦ ap (λ x. (v ∷ s) ∷ x) (filter-map v p f) | false ↦ filter-map v p f ]

pub filter-node : (v : ℕ) (p : List ℕ → Bool) (lo hi : Family)
    → filter p (node v lo hi) ≡ node v (filter p lo) (filter (λ s. p (v ∷ s)) hi)
filter-node v p lo hi = filter-append p (map (λ s. v ∷ s) hi) lo ∙ ap (λ x. x ++ filter p lo) (filter-map v p hi)

pub filter_alike : (p q : List ℕ → Bool) (f : Family) → AllByRecursion (λ s. p s ≡ q s) f → filter p f ≡ filter q f
filter_alike p q [] h = refl
filter_alike p q (s ∷ f) h = ap₂ (λ b x. cond b (s ∷ x) x) h.0 (filter_alike p q f h.1)

pub every : (P : List ℕ → Type 0) → ((s : List ℕ) → P s) → (f : Family) → AllByRecursion P f
every P h [] = tt
every P h (s ∷ f) = (h s, every P h f)

pub each_of : (P Q : List ℕ → Type 0) → ((s : List ℕ) → P s → Q s) → (f : Family) → AllByRecursion P f
    → AllByRecursion Q f
each_of P Q h [] a = tt
each_of P Q h (s ∷ f) a = (h s a.0, each_of P Q h f a.1)

pub each-filter : (P : List ℕ → Type 0) (p : List ℕ → Bool) (f : Family) → AllByRecursion P f
    → AllByRecursion P (filter p f)
each-filter P p [] a = tt
each-filter P p (s ∷ f) a = elim (p s) as (λ b. AllByRecursion P (cond b (s ∷ filter p f) (filter p f)))
    [ true ↦ (a.0, each-filter P p f a.1) | false ↦ each-filter P p f a.1 ]

pub each-append : (P : List ℕ → Type 0) (f g : Family) → AllByRecursion P f → AllByRecursion P g
    → AllByRecursion P (f ++ g)
each-append P [] g a b = b
each-append P (s ∷ f) g a b = (a.0, each-append P f g a.1 b)

pub list_any-alike : (p q : List ℕ → Bool) (f : Family) → AllByRecursion (λ s. p s ≡ q s) f
    → list_any p f ≡ list_any q f
list_any-alike p q [] h = refl
list_any-alike p q (s ∷ f) h = ap₂ (λ a b. a || b) h.0 (list_any-alike p q f h.1)

pub list_any-map : (v : ℕ) (p : List ℕ → Bool) (f : Family)
    → list_any p (map (λ s. v ∷ s) f) ≡ list_any (λ s. p (v ∷ s)) f
list_any-map v p [] = refl
list_any-map v p (s ∷ f) = ap (λ b. p (v ∷ s) || b) (list_any-map v p f)

pub list_any-none : (p : List ℕ → Bool) (f : Family) → AllByRecursion (λ s. p s ≡ false) f → list_any p f ≡ false
list_any-none p [] h = refl
list_any-none p (s ∷ f) h = ap₂ (λ a b. a || b) h.0 (list_any-none p f h.1)

-- ---- what stays above
pub IsAbove-filter : (v : ℕ) (p : List ℕ → Bool) (f : Family) → IsAbove v f → IsAbove v (filter p f)
IsAbove-filter v p f a = each-filter (IsAbove_set v) p f a

IsAbove-map : (v w : ℕ) (f : Family) → v < w → IsAbove v f → IsAbove v (map (λ s. w ∷ s) f)
IsAbove-map v w [] h a = tt
IsAbove-map v w (s ∷ f) h a = ((h, a.0), IsAbove-map v w f h a.1)

pub above_less : (v w : ℕ) (s : List ℕ) → v < w → IsAbove_set w s → IsAbove_set v s
above_less v w [] h a = tt
above_less v w (x ∷ s) h a = (lt_trans h a.0, above_less v w s h a.1)

pub IsAbove-less : (v w : ℕ) (f : Family) → v < w → IsAbove w f → IsAbove v f
IsAbove-less v w f h a = each_of (IsAbove_set w) (IsAbove_set v) (λ s. above_less v w s h) f a

pub IsAbove-node : (v w : ℕ) (lo hi : Family) → v < w → IsAbove w lo → IsAbove w hi → IsAbove v (node w lo hi)
IsAbove-node v w lo hi h a b = each-append (IsAbove_set v) (map (λ s. w ∷ s) hi) lo
    (IsAbove-map v w hi h (IsAbove-less v w hi h b)) (IsAbove-less v w lo h a)

-- ---- membership by halves
pub same-with : (v : ℕ) (s t : List ℕ) → same (v ∷ s) (v ∷ t) ≡ same s t
same-with v s t = ap (λ b. b && same s t) (eqb-refl v)

pub same-above : (v : ℕ) (s t : List ℕ) → IsAbove_set v t → same (v ∷ s) t ≡ false
same-above v s [] a = refl
same-above v s (x ∷ t) a = ap (λ b. b && same s t) (eqb-above v x a.0)

pub same-under : (v : ℕ) (s t : List ℕ) → IsAbove_set v s → same s (v ∷ t) ≡ false
same-under v [] t a = refl
same-under v (x ∷ s) t a = ap (λ b. b && same s t) (eqb-below v x a.0)

pub has-with : (v : ℕ) (lo hi : Family) (s : List ℕ) → IsAbove v lo → has (node v lo hi) (v ∷ s) ≡ has hi s
has-with v lo hi s a =
    list_any-append (same (v ∷ s)) (map (λ t. v ∷ t) hi) lo
    ∙ ap₂ (λ x y. x || y) (list_any-map v (same (v ∷ s)) hi
    ∙ list_any-alike (λ t. same (v ∷ s) (v ∷ t)) (same s) hi
    (every (λ t. same (v ∷ s) (v ∷ t) ≡ same s t) (same-with v s) hi))
    (list_any-none (same (v ∷ s)) lo (each_of (IsAbove_set v) (λ t. same (v ∷ s) t ≡ false) (same-above v s) lo a))
    ∙ or-false (has hi s)

pub has-under : (v : ℕ) (lo hi : Family) (s : List ℕ) → IsAbove_set v s → has (node v lo hi) s ≡ has lo s
has-under v lo hi s a =
    list_any-append (same s) (map (λ t. v ∷ t) hi) lo
    ∙ ap (λ x. x || has lo s) (list_any-map v (same s) hi
    ∙ list_any-none (λ t. same s (v ∷ t)) hi (every (λ t. same s (v ∷ t) ≡ false) (λ t. same-under v s t a) hi))

-- ---- the operations by halves
pub meet-node : (v : ℕ) (f0 f1 g0 g1 : Family) → IsAbove v f0 → IsAbove v g0
    → meet (node v f0 f1) (node v g0 g1) ≡ node v (meet f0 g0) (meet f1 g1)
unfolding meet
meet-node v f0 f1 g0 g1 a b =
    let g = node v g0 g1 in
    filter-node v (has g) f0 f1 ∙ ap₂ (node v)
    (filter_alike (has g) (has g0) f0 (each_of (IsAbove_set v) (λ s. has g s ≡ has g0 s) (λ s. has-under v g0 g1 s) f0
    a))
    (filter_alike (λ s. has g (v ∷ s)) (has g1) f1
    (every (λ s. has g (v ∷ s) ≡ has g1 s) (λ s. has-with v g0 g1 s b) f1))

pub minus-node : (v : ℕ) (f0 f1 g0 g1 : Family) → IsAbove v f0 → IsAbove v g0
    → minus (node v f0 f1) (node v g0 g1) ≡ node v (minus f0 g0) (minus f1 g1)
unfolding minus
minus-node v f0 f1 g0 g1 a b =
    let g = node v g0 g1 in
    filter-node v (λ s. not (has g s)) f0 f1 ∙ ap₂ (node v)
    (filter_alike (λ s. not (has g s)) (λ s. not (has g0 s)) f0
    (each_of (IsAbove_set v) (λ s. not (has g s) ≡ not (has g0 s)) (λ s k. ap not (has-under v g0 g1 s k)) f0 a))
    (filter_alike (λ s. not (has g (v ∷ s))) (λ s. not (has g1 s)) f1
    (every (λ s. not (has g (v ∷ s)) ≡ not (has g1 s)) (λ s. ap not (has-with v g0 g1 s b)) f1))

-- ---- having
holds-other : (e v : ℕ) (s : List ℕ) → eqb e v ≡ false → holds e (v ∷ s) ≡ holds e s
holds-other e v s h = ap (λ b. b || holds e s) h

pub holds-above : (e : ℕ) (s : List ℕ) → IsAbove_set e s → holds e s ≡ false
holds-above e [] a = refl
holds-above e (x ∷ s) a = ap₂ (λ b c. b || c) (eqb-above e x a.0) (holds-above e s a.1)

pub filter-none : (p : List ℕ → Bool) (f : Family) → AllByRecursion (λ s. p s ≡ false) f → filter p f ≡ []
filter-none p [] h = refl
filter-none p (s ∷ f) h = ap (λ b. cond b (s ∷ filter p f) (filter p f)) h.0 ∙ filter-none p f h.1

pub filter-all : (p : List ℕ → Bool) (f : Family) → AllByRecursion (λ s. p s ≡ true) f → filter p f ≡ f
filter-all p [] h = refl
filter-all p (s ∷ f) h = ap (λ b. cond b (s ∷ filter p f) (filter p f)) h.0 ∙ ap (λ x. s ∷ x) (filter-all p f h.1)

pub having-above : (e : ℕ) (f : Family) → IsAbove e f → having f e ≡ []
unfolding having
having-above e f a = filter-none (holds e) f (each_of (IsAbove_set e) (λ s. holds e s ≡ false) (holds-above e) f a)

pub having-node : (e v : ℕ) (f0 f1 : Family) → eqb e v ≡ false
    → having (node v f0 f1) e ≡ node v (having f0 e) (having f1 e)
unfolding having
having-node e v f0 f1 h = filter-node v (holds e) f0 f1
    ∙ ap (node v (filter (holds e) f0))
    (filter_alike (λ s. holds e (v ∷ s)) (holds e) f1
    (every (λ s. holds e (v ∷ s) ≡ holds e s) (λ s. holds-other e v s h) f1))

pub having-here : (v : ℕ) (f0 f1 : Family) → IsAbove v f0 → having (node v f0 f1) v ≡ node v [] f1
unfolding having
having-here v f0 f1 a = filter-node v (holds v) f0 f1
    ∙ ap₂ (node v) (having-above v f0 a)
    (filter-all (λ s. holds v (v ∷ s)) f1
    (every (λ s. holds v (v ∷ s) ≡ true) (λ s. ap (λ b. b || holds v s) (eqb-refl v)) f1))

-- ---- union
order-above : (v : ℕ) (s t : List ℕ) → IsAbove_set v t → order (v ∷ s) t ≡ Less
order-above v s [] a = refl
order-above v s (x ∷ t) a = ap (λ b. ordering_then (cond b Less (cond (eqb v x) Equal Greater)) (order s t))
    (lt-ltb v x a.0)

order-under : (v : ℕ) (s t : List ℕ) → IsAbove_set v s → order s (v ∷ t) ≡ Greater
order-under v [] t a = refl
order-under v (x ∷ s) t a = let h : nat_lt x v ≡ false = grind (arith, nat_tests, a.0) in
    ap₂ (λ b c. ordering_then (cond b Less (cond c Equal Greater)) (order s t)) h (eqb-below v x a.0)

pub order-with : (v : ℕ) (s t : List ℕ) → order (v ∷ s) (v ∷ t) ≡ order s t
order-with v s t = let h : nat_lt v v ≡ false = grind (arith, nat_tests) in
    ap₂ (λ b c. ordering_then (cond b Less (cond c Equal Greater)) (order s t)) h (eqb-refl v)

abbrev placed : Ordering → List ℕ → List ℕ → (Family → Family) → Family → Family → Family
placed o s t rest f g = elim o [ Less ↦ s ∷ rest (t ∷ g) | Equal ↦ s ∷ rest g | Greater ↦ t ∷ place s rest f g ]

pub union-nil : (f : Family) → union f [] ≡ f
unfolding union
union-nil [] = refl
union-nil (s ∷ f) = refl

union-under : (v : ℕ) (f0 g0 g1 : Family) → IsAbove v f0 → union f0 (node v g0 g1) ≡ node v (union f0 g0) g1
unfolding union
union-under v [] g0 g1 a = refl
union-under v (s ∷ f) g0 [] a = refl
union-under v (s ∷ f) g0 (t ∷ g1) a =
    ap (λ o. placed o s (v ∷ t) (union f) f (node v g0 g1)) (order-under v s t a.0)
    ∙ ap (λ x. (v ∷ t) ∷ x) (union-under v (s ∷ f) g0 g1 a)

union_into_lower : (v : ℕ) (s : List ℕ) (f0 f1 g0 : Family) → IsAbove v g0
    → ((g1 : Family) → union (node v f0 f1) (node v g0 g1) ≡ node v (union f0 g0) (union f1 g1))
    → place (v ∷ s) (union (node v f0 f1)) (node v f0 f1) g0 ≡ (v ∷ s) ∷ node v (union f0 g0) f1
unfolding union
union_into_lower v s f0 f1 [] b ih = ap (λ x. (v ∷ s) ∷ node v x f1) (sym (union-nil f0))
union_into_lower v s f0 f1 (t ∷ g0) b ih =
    ap (λ o. placed o (v ∷ s) t (union (node v f0 f1)) (node v f0 f1) g0) (order-above v s t b.0)
    ∙ ap (λ x. (v ∷ s) ∷ x) (ih [] ∙ ap (node v (union f0 (t ∷ g0))) (union-nil f1))

union_into : (v : ℕ) (s : List ℕ) (f0 f1 g0 : Family) → IsAbove v g0
    → ((g1 : Family) → union (node v f0 f1) (node v g0 g1) ≡ node v (union f0 g0) (union f1 g1))
    → (g1 : Family) → place (v ∷ s) (union (node v f0 f1)) (node v f0 f1) (node v g0 g1)
    ≡ node v (union f0 g0) (place s (union f1) f1 g1)
unfolding union
union_into v s f0 f1 g0 b ih [] = union_into_lower v s f0 f1 g0 b ih
union_into v s f0 f1 g0 b ih (t ∷ g1) =
    ap (λ o. placed o (v ∷ s) (v ∷ t) (union (node v f0 f1)) (node v f0 f1) (node v g0 g1)) (order-with v s t)
    ∙ elim (order s t) as (λ o. placed o (v ∷ s) (v ∷ t) (union (node v f0 f1)) (node v f0 f1) (node v g0 g1)
    ≡ node v (union f0 g0) (placed o s t (union f1) f1 g1)) [
      | Less ↦ ap (λ x. (v ∷ s) ∷ x) (ih (t ∷ g1))
      | Equal ↦ ap (λ x. (v ∷ s) ∷ x) (ih g1)
      | Greater ↦ ap (λ x. (v ∷ t) ∷ x) (union_into v s f0 f1 g0 b ih g1)
    ]

pub union-node : (v : ℕ) (f0 f1 g0 g1 : Family) → IsAbove v f0 → IsAbove v g0
    → union (node v f0 f1) (node v g0 g1) ≡ node v (union f0 g0) (union f1 g1)
unfolding union
union-node v f0 [] g0 g1 a b = union-under v f0 g0 g1 a
union-node v f0 (s ∷ f1) g0 g1 a b = union_into v s f0 f1 g0 b (λ x. union-node v f0 f1 g0 x a b) g1

order-refl : (s : List ℕ) → order s s ≡ Equal
order-refl [] = refl
order-refl (x ∷ s) = order-with x s s ∙ order-refl s

pub union-self : (f : Family) → union f f ≡ f
unfolding union
union-self [] = refl
union-self (s ∷ f) = ap (λ o. placed o s s (union f) f f) (order-refl s) ∙ ap (λ x. s ∷ x) (union-self f)

each-place : (P : List ℕ → Type 0) (s : List ℕ) (f : Family) → P s → AllByRecursion P f
    → ((g : Family) → AllByRecursion P g → AllByRecursion P (union f g)) → (g : Family) → AllByRecursion P g
    → AllByRecursion P (place s (union f) f g)
each-place P s f p a ih [] b = (p, a)
each-place P s f p a ih (t ∷ g) b = elim (order s t) as (λ o. AllByRecursion P (placed o s t (union f) f g))
    [ Less ↦ (p, ih (t ∷ g) b) | Equal ↦ (p, ih g b.1) | Greater ↦ (b.0, each-place P s f p a ih g b.1) ]

pub each-union : (P : List ℕ → Type 0) (f g : Family) → AllByRecursion P f → AllByRecursion P g
    → AllByRecursion P (union f g)
unfolding union
each-union P [] g a b = b
each-union P (s ∷ f) g a b = each-place P s f a.0 a.1 (λ x. each-union P f x a.1) g b

pub IsAbove-union : (v : ℕ) (f g : Family) → IsAbove v f → IsAbove v g → IsAbove v (union f g)
IsAbove-union v f g a b = each-union (IsAbove_set v) f g a b

pub IsAbove-meet : (v : ℕ) (f g : Family) → IsAbove v f → IsAbove v (meet f g)
unfolding meet
IsAbove-meet v f g a = IsAbove-filter v (has g) f a

pub IsAbove-minus : (v : ℕ) (f g : Family) → IsAbove v f → IsAbove v (minus f g)
unfolding minus
IsAbove-minus v f g a = IsAbove-filter v (λ s. not (has g s)) f a

pub IsAbove-having : (v : ℕ) (f : Family) (e : ℕ) → IsAbove v f → IsAbove v (having f e)
unfolding having
IsAbove-having v f e a = IsAbove-filter v (holds e) f a

pub IsAbove-without : (v : ℕ) (f g : Family) → IsAbove v f → IsAbove v (without f g)
unfolding without
IsAbove-without v f g a = IsAbove-filter v (λ s. not (list_any (λ t. within t s) g)) f a

pub IsAbove-minimal : (v : ℕ) (f : Family) → IsAbove v f → IsAbove v (minimal f)
unfolding minimal
IsAbove-minimal v f a = IsAbove-filter v (λ s. not (list_any (λ t. within t s && not (same t s)) f)) f a

-- ---- shortcuts
pub same-refl : (s : List ℕ) → same s s ≡ true
same-refl [] = refl
same-refl (x ∷ s) = same-with x s s ∙ same-refl s

pub same-true : (s t : List ℕ) → same s t ≡ true → s ≡ t
same-true [] [] h = refl
same-true [] (y ∷ t) h = let no : ⊥ = cc in absurd no
same-true (x ∷ s) [] h = let no : ⊥ = cc in absurd no
same-true (x ∷ s) (y ∷ t) h = let p = and_parts (eqb x y) (same s t) h in ap₂ (λ (a : ℕ) (b : List ℕ). a ∷ b) (eqb-true x y p.0) (same-true s t p.1)

pub any_more : (p : List ℕ → Bool) (t : List ℕ) (f : Family) → list_any p f ≡ true → list_any p (t ∷ f) ≡ true
any_more p t f h = elim (p t) as (λ b. (b || list_any p f) ≡ true) [ true ↦ refl | false ↦ h ]

pub has_each : (f : Family) → AllByRecursion (λ s. has f s ≡ true) f
has_each [] = tt
has_each (s ∷ f) = (
  ap (λ b. b || has f s) (same-refl s),
  each_of (λ t. has f t ≡ true) (λ t. has (s ∷ f) t ≡ true)
      (λ t. any_more (same t) s f) f (has_each f),
)

pub meet-self : (f : Family) → meet f f ≡ f
unfolding meet
meet-self f = filter-all (has f) f (has_each f)

pub meet-nil : (f : Family) → meet f [] ≡ []
unfolding meet
meet-nil f = filter-none (λ s. has [] s) f (every (λ s. has [] s ≡ false) (λ s. refl) f)

pub nil-meet : (g : Family) → meet [] g ≡ []
unfolding meet
nil-meet g = refl

pub minus-nil : (f : Family) → minus f [] ≡ f
unfolding minus
minus-nil f = filter-all (λ s. not (has [] s)) f (every (λ s. not (has [] s) ≡ true) (λ s. refl) f)

pub nil-minus : (g : Family) → minus [] g ≡ []
unfolding minus
nil-minus g = refl

pub minus-self : (f : Family) → minus f f ≡ []
unfolding minus
minus-self f = filter-none (λ s. not (has f s)) f
    (each_of (λ s. has f s ≡ true) (λ s. not (has f s) ≡ false) (λ s h. ap not h) f (has_each f))

-- ---- W by halves
pub within-more : (v : ℕ) (t s : List ℕ) → IsAbove_set v t → within t (v ∷ s) ≡ within t s
within-more v [] s a = refl
within-more v (x ∷ t) s a = ap₂ (λ b c. (b || holds x s) && c) (eqb-below v x a.0) (within-more v t s a.1)

pub within-both : (v : ℕ) (t s : List ℕ) → IsAbove_set v t → within (v ∷ t) (v ∷ s) ≡ within t s
within-both v t s a = ap (λ b. (b || holds v s) && within t (v ∷ s)) (eqb-refl v) ∙ within-more v t s a

pub within-not : (v : ℕ) (t s : List ℕ) → IsAbove_set v s → within (v ∷ t) s ≡ false
within-not v t s a = ap (λ b. b && within t s) (holds-above v s a)

any_within-with : (v : ℕ) (g0 g1 : Family) (s : List ℕ) → IsAbove v g0 → IsAbove v g1
    → list_any (λ t. within t (v ∷ s)) (node v g0 g1) ≡ (list_any (λ t. within t s) g1 || list_any (λ t. within t s) g0)
any_within-with v g0 g1 s a b =
    list_any-append (λ t. within t (v ∷ s)) (map (λ t. v ∷ t) g1) g0
    ∙ ap₂ (λ x y. x || y)
    (list_any-map v (λ t. within t (v ∷ s)) g1
    ∙ list_any-alike (λ t. within (v ∷ t) (v ∷ s)) (λ t. within t s) g1
    (each_of (IsAbove_set v) (λ t. within (v ∷ t) (v ∷ s) ≡ within t s) (λ t k. within-both v t s k) g1 b))
    (list_any-alike (λ t. within t (v ∷ s)) (λ t. within t s) g0
    (each_of (IsAbove_set v) (λ t. within t (v ∷ s) ≡ within t s) (λ t k. within-more v t s k) g0 a))

any_within-under : (v : ℕ) (g0 g1 : Family) (s : List ℕ) → IsAbove_set v s
    → list_any (λ t. within t s) (node v g0 g1) ≡ list_any (λ t. within t s) g0
any_within-under v g0 g1 s a =
    list_any-append (λ t. within t s) (map (λ t. v ∷ t) g1) g0
    ∙ ap (λ x. x || list_any (λ t. within t s) g0)
    (list_any-map v (λ t. within t s) g1
    ∙ list_any-none (λ t. within (v ∷ t) s) g1 (every (λ t. within (v ∷ t) s ≡ false) (λ t. within-not v t s a) g1))

-- ---- what a filter has

pub has-filter-yes : (q : List ℕ → Bool) (s : List ℕ) (f : Family) → q s ≡ true → has f s ≡ true
    → has (filter q f) s ≡ true
has-filter-yes q s [] h k = k
has-filter-yes q s (t ∷ f) h k = step (same s t) refl (has-filter-yes q s f h)
  where
    step : (b : Bool) → same s t ≡ b → (has f s ≡ true → has (filter q f) s ≡ true)
        → has (cond (q t) (t ∷ filter q f) (filter q f)) s ≡ true
    step true e ih = let qt : q t ≡ true = ap q (sym (same-true s t e)) ∙ h in
        ap (λ b. has (cond b (t ∷ filter q f) (filter q f)) s) qt ∙ ap (λ b. b || has (filter q f) s) e
    step false e ih =
        let r = ih (ap (λ b. b || has f s) (sym e) ∙ k) in
        elim (q t) as (λ b. has (cond b (t ∷ filter q f) (filter q f)) s ≡ true)
        [ true ↦ any_more (same s) t (filter q f) r | false ↦ r ]

pub has-filter-no : (q : List ℕ → Bool) (s : List ℕ) (f : Family) → q s ≡ false → has (filter q f) s ≡ false
has-filter-no q s [] h = refl
has-filter-no q s (t ∷ f) h = step (q t) refl (has-filter-no q s f h)
  where
    differ : q t ≡ true → (b : Bool) → same s t ≡ b → same s t ≡ false
    differ e false x = x
    differ e true x = let qs : q s ≡ true = ap q (same-true s t x) ∙ e in let no : ⊥ = cc in absurd no

    step : (b : Bool) → q t ≡ b → has (filter q f) s ≡ false → has (cond (q t) (t ∷ filter q f) (filter q f)) s ≡ false
    step false e ih = ap (λ b. has (cond b (t ∷ filter q f) (filter q f)) s) e ∙ ih
    step true e ih = ap (λ b. has (cond b (t ∷ filter q f) (filter q f)) s) e
        ∙ ap (λ b. b || has (filter q f) s) (differ e (same s t) refl) ∙ ih

-- what passes both tests is in the meet of what passes each
pub meet-filters : (p q : List ℕ → Bool) (f : Family) → meet (filter p f) (filter q f) ≡ filter (λ s. p s && q s) f
unfolding meet
meet-filters p q f = filter_twice f (has_as f)
  where
    has_as : (f : Family) → AllByRecursion (λ s. has (filter q f) s ≡ q s) f
    has_as f = each_of (λ s. has f s ≡ true) (λ s. has (filter q f) s ≡ q s) (λ s k. decide s (q s) refl k) f
        (has_each f)
      where
        decide : (s : List ℕ) (b : Bool) → q s ≡ b → has f s ≡ true → has (filter q f) s ≡ q s
        decide s true e k = has-filter-yes q s f e k ∙ sym e
        decide s false e k = has-filter-no q s f e ∙ sym e

    filter_twice : (h : Family) → AllByRecursion (λ s. has (filter q f) s ≡ q s) h
        → filter (has (filter q f)) (filter p h) ≡ filter (λ s. p s && q s) h
    filter_twice [] a = refl
    filter_twice (s ∷ h) a = elim (p s) as
        (λ b. filter (has (filter q f)) (cond b (s ∷ filter p h) (filter p h))
        ≡ cond (b && q s) (s ∷ filter (λ s. p s && q s) h) (filter (λ s. p s && q s) h))
        [ true ↦ ap₂ (λ b x. cond b (s ∷ x) x) a.0 (filter_twice h a.1) | false ↦ filter_twice h a.1 ]

pub not-or : (a b : Bool) → not (a || b) ≡ (not b && not a)
not-or true true = refl
not-or true false = refl
not-or false true = refl
not-or false false = refl

pub without-node : (v : ℕ) (f0 f1 g0 g1 : Family) → IsAbove v f0 → IsAbove v g0 → IsAbove v g1
    → without (node v f0 f1) (node v g0 g1) ≡ node v (without f0 g0) (meet (without f1 g0) (without f1 g1))
unfolding without
without-node v f0 f1 g0 g1 a b c =
    let g = node v g0 g1 in
    let A = λ (h : Family) (s : List ℕ). list_any (λ t. within t s) h in
    filter-node v (λ s. not (A g s)) f0 f1 ∙ ap₂ (node v)
    (filter_alike (λ s. not (A g s)) (λ s. not (A g0 s)) f0
    (each_of (IsAbove_set v) (λ s. not (A g s) ≡ not (A g0 s)) (λ s k. ap not (any_within-under v g0 g1 s k)) f0 a))
    (filter_alike (λ s. not (A g (v ∷ s))) (λ s. not (A g0 s) && not (A g1 s)) f1
    (every (λ s. not (A g (v ∷ s)) ≡ (not (A g0 s) && not (A g1 s)))
    (λ s. ap not (any_within-with v g0 g1 s b c) ∙ not-or (A g1 s) (A g0 s)) f1)
    ∙ sym (meet-filters (λ s. not (A g0 s)) (λ s. not (A g1 s)) f1))

pub nil-without : (g : Family) → without [] g ≡ []
unfolding without
nil-without g = refl

pub without-nil : (f : Family) → without f [] ≡ f
unfolding without
without-nil f = filter-all (λ s. not (list_any (λ t. within t s) [])) f
    (every (λ s. not (list_any (λ t. within t s) []) ≡ true) (λ s. refl) f)

pub holds_here : (x : ℕ) (s : List ℕ) → holds x (x ∷ s) ≡ true
holds_here x s = ap (λ b. b || holds x s) (eqb-refl x)

within_each : (s t : List ℕ) → AllByRecursion (λ x. holds x t ≡ true) s → within s t ≡ true
within_each [] t a = refl
within_each (x ∷ s) t a = ap₂ (λ b c. b && c) a.0 (within_each s t a.1)

pub holds_more : (x y : ℕ) (t : List ℕ) → holds x t ≡ true → holds x (y ∷ t) ≡ true
holds_more x y t h = elim (eqb x y) as (λ b. (b || holds x t) ≡ true) [ true ↦ refl | false ↦ h ]

each_held : (s : List ℕ) → AllByRecursion (λ x. holds x s ≡ true) s
each_held [] = tt
each_held (x ∷ s) = (holds_here x s, each_more s (each_held s))
  where
    each_more : (t : List ℕ) → AllByRecursion (λ y. holds y s ≡ true) t → AllByRecursion (λ y. holds y (x ∷ s) ≡ true) t
    each_more [] a = tt
    each_more (y ∷ t) a = (holds_more y x s a.0, each_more t a.1)

pub within-refl : (s : List ℕ) → within s s ≡ true
within-refl s = within_each s s (each_held s)

within_some : (f : Family) → AllByRecursion (λ s. list_any (λ t. within t s) f ≡ true) f
within_some [] = tt
within_some (s ∷ f) = (
  ap (λ b. b || list_any (λ t. within t s) f) (within-refl s),
  each_of
      (λ t. list_any (λ u. within u t) f ≡ true) (λ t. list_any (λ u. within u t) (s ∷ f) ≡ true)
      (λ t. any_more (λ u. within u t) s f) f (within_some f),
)

pub without-self : (f : Family) → without f f ≡ []
unfolding without
without-self f = filter-none (λ s. not (list_any (λ t. within t s) f)) f
    (each_of (λ s. list_any (λ t. within t s) f ≡ true) (λ s. not (list_any (λ t. within t s) f) ≡ false)
    (λ s h. ap not h) f (within_some f))

pub minimal-nil : minimal [] ≡ []
unfolding minimal
minimal-nil = refl

pub minimal-unit : minimal ([] ∷ []) ≡ [] ∷ []
unfolding minimal
minimal-unit = refl
