use Rattle.std.proofs.Common.{◌≡◌, ℕ, zero, suc, ◌<◌, Bool, true, false, not, cond, ◌&&◌, ◌||◌, eqb, List, [], ◌∷◌, length, map, refl, sym, ap, ap₂, ◌∙◌, subst, arith, lt_irrefl, lt_trans, ⊎_elim, ◌⊎◌, inl, inr, filter, eqb-true, true≢false}
use Rattle.std.specs.List.{AllByRecursion, list_any}
use Rattle.std.proofs.Math.Bool.{and-true}
use Rattle.std.proofs.lemmas.Bool.{and_parts}
use Rattle.std.proofs.lemmas.List.Folds.{list_any-append}
use Rattle.ar_base.specs.Sets.{Ascends}
use Rattle.ar_base.proofs.Truths.{alike}
use Rattle.zdd_nodes.specs.Families.{Family, same, holds, within, has, without, minimal}
use Rattle.zdd_nodes.specs.FamiliesInside.{node, IsAbove}
use Rattle.zdd_nodes.proofs.Ascending.{IsAscending, is_ascending}
use Rattle.zdd_nodes.proofs.Laws.{IsAbove_set, filter-node, filter_alike, every, each_of, same-refl, same-true, list_any-alike, list_any-map, within-more, within-both, within-not, same-with, same-under, any_more, has-filter-yes, within-refl, list_any-none}

-- ---- within
within_parts : (x : ℕ) (s t : List ℕ) → within (x ∷ s) t ≡ true → (holds x t ≡ true) × (within s t ≡ true)
within_parts x s t h = and_parts (holds x t) (within s t) h

holds_through : (x : ℕ) (s t : List ℕ) → within s t ≡ true → holds x s ≡ true → holds x t ≡ true
holds_through x [] t h k = let no : ⊥ = cc in absurd no
holds_through x (y ∷ s) t h k = step (holds_through x s t (within_parts y s t h).1) (eqb x y) refl
  where
    step : (holds x s ≡ true → holds x t ≡ true) → (b : Bool) → eqb x y ≡ b → holds x t ≡ true
    step ih true e = subst (λ z. holds z t ≡ true) (sym (eqb-true x y e)) (within_parts y s t h).0
    step ih false e = ih (ap (λ b. b || holds x s) (sym e) ∙ k)

pub within-through : (s t u : List ℕ) → within s t ≡ true → within t u ≡ true → within s u ≡ true
within-through [] t u h k = refl
within-through (x ∷ s) t u h k = let p = within_parts x s t h in ap₂ (λ b c. b && c) (holds_through x t u k p.0) (within-through s t u p.1 k)

not_held_above : (x : ℕ) (t : List ℕ) → IsAbove_set x t → holds x t ≡ true → ⊥
not_held_above x [] a h = true≢false (sym h)
not_held_above x (y ∷ t) a h = step (not_held_above x t a.1) (eqb x y) refl
  where
    step : (holds x t ≡ true → ⊥) → (b : Bool) → eqb x y ≡ b → ⊥
    step ih true e = lt_irrefl x (subst (λ z. x < z) (sym (eqb-true x y e)) a.0)
    step ih false e = ih (ap (λ b. b || holds x t) (sym e) ∙ h)

set_less : (v w : ℕ) (s : List ℕ) → v < w → IsAbove_set w s → IsAbove_set v s
set_less v w [] h a = tt
set_less v w (x ∷ s) h a = (lt_trans h a.0, set_less v w s h a.1)

-- an ascending set within another is it, or shorter
shorter : (s t : List ℕ) → IsAscending s → IsAscending t → within s t ≡ true → (s ≡ t) ⊎ (length s < length t)
shorter [] [] a b h = inl refl
shorter [] (y ∷ t) a b h = inr (omega arith)
shorter (x ∷ s) [] a b h = absurd (true≢false (sym (within_parts x s [] h).0))
shorter (x ∷ s) (y ∷ t) a b h =
    let p = within_parts x s (y ∷ t) h in
    let three : (x < y) ⊎ ((x ≡ y) ⊎ (y < x)) = grind arith in
    ⊎_elim (λ l. absurd (not_held_above x (y ∷ t) (l, set_less x y t l b.0) p.0))
    (λ r. ⊎_elim
    (λ e. let a2 : IsAbove_set y s = subst (λ z. IsAbove_set z s) e a.0 in
    ⊎_elim (λ q. inl (ap₂ (λ (m : ℕ) (n : List ℕ). m ∷ n) e q)) (λ q. inr (omega arith))
    (shorter s t a.1 b.1 (sym (within-more y s t a2) ∙ p.1)))
    (λ l. let a2 : IsAbove_set y (x ∷ s) = (l, set_less y x s l a.0) in
    ⊎_elim (λ q. inr (omega (arith, ap length q))) (λ q. inr (omega arith))
    (shorter (x ∷ s) t a b.1 (sym (within-more y (x ∷ s) t a2) ∙ h)))
    r)
    three

pub within-shorter : (s t : List ℕ) → Ascends s → Ascends t → within s t ≡ true → (s ≡ t) ⊎ (length s < length t)
within-shorter s t a b h = shorter s t (is_ascending s a) (is_ascending t b) h

-- ---- witnesses
pub record Witness (p : List ℕ → Bool) (f : Family) : Type 0 where
  pub set : List ℕ
  pub in_family : has f set ≡ true
  pub passes : p set ≡ true

pub witness : (p : List ℕ → Bool) (f : Family) → list_any p f ≡ true → Witness p f
witness p [] h = let no : ⊥ = cc in absurd no
witness p (s ∷ f) h = step (witness p f) (p s) refl
  where
    step : (list_any p f ≡ true → Witness p f) → (b : Bool) → p s ≡ b → Witness p (s ∷ f)
    step ih true e = record { set = s; in_family = ap (λ b. b || has f s) (same-refl s); passes = e }
    step ih false e = let w = ih (ap (λ b. b || list_any p f) (sym e) ∙ h) in record { set = w.set; in_family = any_more (same w.set) s f w.in_family; passes = w.passes }

pub any_from : (p : List ℕ → Bool) (f : Family) (s : List ℕ) → has f s ≡ true → p s ≡ true → list_any p f ≡ true
any_from p [] s h k = h
any_from p (t ∷ f) s h k = step (any_from p f s) (same s t) refl
  where
    step : (has f s ≡ true → p s ≡ true → list_any p f ≡ true) → (b : Bool) → same s t ≡ b → list_any p (t ∷ f) ≡ true
    step ih true e = ap (λ b. b || list_any p f) (ap p (sym (same-true s t e)) ∙ k)
    step ih false e = any_more p t f (ih (ap (λ b. b || has f s) (sym e) ∙ h) k)

pub member_of : (P : List ℕ → Type 0) (f : Family) (s : List ℕ) → AllByRecursion P f → has f s ≡ true → P s
member_of P [] s a h = let no : ⊥ = cc in absurd no
member_of P (t ∷ f) s a h = step (member_of P f s a.1) (same s t) refl
  where
    step : (has f s ≡ true → P s) → (b : Bool) → same s t ≡ b → P s
    step ih true e = subst P (sym (same-true s t e)) a.0
    step ih false e = ih (ap (λ b. b || has f s) (sym e) ∙ h)

any-filter : (p q : List ℕ → Bool) (f : Family) → list_any p (filter q f) ≡ true → list_any p f ≡ true
any-filter p q [] h = h
any-filter p q (s ∷ f) h = step (any-filter p q f) (q s) refl
  where
    step : (list_any p (filter q f) ≡ true → list_any p f ≡ true) → (b : Bool) → q s ≡ b → list_any p (s ∷ f) ≡ true
    step ih true e = first (p s) refl (ap (λ b. list_any p (cond b (s ∷ filter q f) (filter q f))) (sym e) ∙ h)
      where
        first : (b : Bool) → p s ≡ b → (p s || list_any p (filter q f)) ≡ true → list_any p (s ∷ f) ≡ true
        first true x k = ap (λ b. b || list_any p f) x
        first false x k = any_more p s f (ih (ap (λ b. b || list_any p (filter q f)) (sym x) ∙ k))
    step ih false e = any_more p s f (ih (ap (λ b. list_any p (cond b (s ∷ filter q f) (filter q f))) (sym e) ∙ h))

abbrev pub proper : List ℕ → List ℕ → Bool
proper t s = within t s && not (same t s)

-- ---- each set contains a minimal one
some_minimal : (f : Family) → AllByRecursion Ascends f → (n : ℕ) (t : List ℕ) → length t < n → has f t ≡ true
    → Witness (λ m. within m t) (minimal f)
unfolding minimal
some_minimal f a zero t l h = absurd (omega (arith, l))
some_minimal f a (suc n) t l h = step (some_minimal f a n) (list_any (λ u. proper u t) f) refl
  where
    step : ((t : List ℕ) → length t < n → has f t ≡ true
        → Witness (λ m. within m t) (filter (λ s. not (list_any (λ t. proper t s) f)) f))
        → (b : Bool) → list_any (λ u. proper u t) f ≡ b
        → Witness (λ m. within m t) (filter (λ s. not (list_any (λ t. proper t s) f)) f)
    step ih false e = record {
      set = t;
      in_family = has-filter-yes (λ s. not (list_any (λ t. proper t s) f)) t f (ap not e) h;
      passes = within-refl t;
    }
    step ih true e =
        let w = witness (λ u. proper u t) f e in
        let p = and_parts (within w.set t) (not (same w.set t)) w.passes in
        ⊎_elim
        (λ q. absurd (true≢false (sym p.1 ∙ ap not (ap (λ z. same w.set z) (sym q) ∙ same-refl w.set))))
        (λ q. let m = ih w.set (omega (arith, q, l)) w.in_family in
        record { set = m.set; in_family = m.in_family; passes = within-through m.set w.set t m.passes p.0 })
        (within-shorter w.set t (member_of Ascends f w.set a w.in_family) (member_of Ascends f t a h) p.0)

any-minimal : (p : List ℕ → Bool) (f : Family) → list_any p (minimal f) ≡ true → list_any p f ≡ true
unfolding minimal
any-minimal p f h = any-filter p (λ s. not (list_any (λ t. proper t s) f)) f h

pub any_within-minimal : (f : Family) → AllByRecursion Ascends f → (s : List ℕ)
    → list_any (λ t. within t s) f ≡ list_any (λ t. within t s) (minimal f)
any_within-minimal f a s = alike _ _
    (λ h. let w = witness (λ t. within t s) f h in
    let m = some_minimal f a (suc (length w.set)) w.set (omega arith) w.in_family in
    any_from (λ t. within t s) (minimal f) m.set m.in_family (within-through m.set w.set s m.passes w.passes))
    (λ h. back f s h)
  where
    back : (f : Family) (s : List ℕ) → list_any (λ t. within t s) (minimal f) ≡ true
        → list_any (λ t. within t s) f ≡ true
    back f s h = any-minimal (λ t. within t s) f h

-- ---- M by halves
filter-filter : (p q : List ℕ → Bool) (f : Family) → filter q (filter p f) ≡ filter (λ s. p s && q s) f
filter-filter p q [] = refl
filter-filter p q (s ∷ f) = elim (p s) as
    (λ b. filter q (cond b (s ∷ filter p f) (filter p f))
    ≡ cond (b && q s) (s ∷ filter (λ s. p s && q s) f) (filter (λ s. p s && q s) f))
    [ true ↦ ap (λ x. cond (q s) (s ∷ x) x) (filter-filter p q f) | false ↦ filter-filter p q f ]

any_proper-under : (v : ℕ) (f0 f1 : Family) (s : List ℕ) → IsAbove_set v s
    → list_any (λ t. proper t s) (node v f0 f1) ≡ list_any (λ t. proper t s) f0
any_proper-under v f0 f1 s a =
    list_any-append (λ t. proper t s) (map (λ t. v ∷ t) f1) f0
    ∙ ap (λ x. x || list_any (λ t. proper t s) f0)
    (list_any-map v (λ t. proper t s) f1
    ∙ list_any-none (λ t. proper (v ∷ t) s) f1
    (every (λ t. proper (v ∷ t) s ≡ false) (λ t. ap (λ b. b && not (same (v ∷ t) s)) (within-not v t s a)) f1))

any_proper-with : (v : ℕ) (f0 f1 : Family) (s : List ℕ) → IsAbove v f0 → IsAbove v f1
    → list_any (λ t. proper t (v ∷ s)) (node v f0 f1) ≡ (list_any (λ t. proper t s) f1 || list_any (λ t. within t s) f0)
any_proper-with v f0 f1 s a b =
    list_any-append (λ t. proper t (v ∷ s)) (map (λ t. v ∷ t) f1) f0
    ∙ ap₂ (λ x y. x || y)
    (list_any-map v (λ t. proper t (v ∷ s)) f1
    ∙ list_any-alike (λ t. proper (v ∷ t) (v ∷ s)) (λ t. proper t s) f1
    (each_of (IsAbove_set v) (λ t. proper (v ∷ t) (v ∷ s) ≡ proper t s)
    (λ t k. ap₂ (λ x y. x && not y) (within-both v t s k) (same-with v t s)) f1 b))
    (list_any-alike (λ t. proper t (v ∷ s)) (λ t. within t s) f0
    (each_of (IsAbove_set v) (λ t. proper t (v ∷ s) ≡ within t s)
    (λ t k. ap₂ (λ x y. x && not y) (within-more v t s k) (same-under v t s k) ∙ and-true (within t s)) f0 a))

pub minimal-node : (v : ℕ) (f0 f1 : Family) → IsAbove v f0 → IsAbove v f1 → AllByRecursion Ascends f0
    → minimal (node v f0 f1) ≡ node v (minimal f0) (without (minimal f1) (minimal f0))
unfolding minimal without
minimal-node v f0 f1 a b c =
    let f = node v f0 f1 in
    let N = λ (h : Family) (s : List ℕ). not (list_any (λ t. proper t s) h) in
    let W = λ (h : Family) (s : List ℕ). not (list_any (λ t. within t s) h) in
    filter-node v (N f) f0 f1 ∙ ap₂ (node v)
    (filter_alike (N f) (N f0) f0 (each_of (IsAbove_set v) (λ s. N f s ≡ N f0 s)
    (λ s k. ap not (any_proper-under v f0 f1 s k)) f0 a))
    (filter_alike (λ s. N f (v ∷ s)) (λ s. N f1 s && W (filter (N f0) f0) s) f1
    (every (λ s. N f (v ∷ s) ≡ (N f1 s && W (filter (N f0) f0) s))
    (λ s. ap not (any_proper-with v f0 f1 s a b)
    ∙ not_or (list_any (λ t. proper t s) f1) (list_any (λ t. within t s) f0)
    ∙ ap (λ x. N f1 s && not x) (any_within-minimal f0 c s)) f1)
    ∙ sym (filter-filter (N f1) (W (filter (N f0) f0)) f1))
  where
    not_or : (a b : Bool) → not (a || b) ≡ (not a && not b)
    not_or true b = refl
    not_or false b = refl
