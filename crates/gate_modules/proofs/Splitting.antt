-- Sets cut at a number, and what sections have.
use Rattle.std.proofs.Common.{◌≡◌, ◌≢◌, ℕ, ◌<◌, ◌≤◌, Bool, true, false, cond, ◌&&◌, ◌||◌, eqb, List, [], ◌∷◌, ◌++◌, length, map, drop, filter, nat_lt, refl, sym, ap, ap₂, ◌∙◌, subst, arith, true≢false}
use Rattle.std.specs.List.{AllByRecursion}
use Rattle.std.proofs.lemmas.Bool.{ltb-false, ltb-true}
use Rattle.zdd_nodes.specs.Families.{Family, same, has}
use Rattle.zdd_nodes.specs.Sections.{below, section}
use Rattle.zdd_nodes.proofs.Ascending.{IsAscending}
use Rattle.zdd_nodes.proofs.Laws.{IsAbove_set, same-refl, same-true, any_more, eqb-above}
use Rattle.zdd_nodes.proofs.Sections.{AtLeast, below-low}
use Rattle.gate_diagrams.proofs.Filters.{eqb_turned}

-- each number of the list is below the bound
abbrev pub AllBelow : ℕ → List ℕ → Type 0
AllBelow i s = AllByRecursion (λ x. x < i) s

-- ---- lists of numbers
pub all_append : (P : ℕ → Type 0) (s t : List ℕ) → AllByRecursion P s → AllByRecursion P t → AllByRecursion P (s ++ t)
all_append P [] t a b = b
all_append P (x ∷ s) t a b = (a.0, all_append P s t a.1 b)

pub all_left : (P : ℕ → Type 0) (s t : List ℕ) → AllByRecursion P (s ++ t) → AllByRecursion P s
all_left P [] t a = tt
all_left P (x ∷ s) t a = (a.0, all_left P s t a.1)

pub all_right : (P : ℕ → Type 0) (s t : List ℕ) → AllByRecursion P (s ++ t) → AllByRecursion P t
all_right P [] t a = a
all_right P (x ∷ s) t a = all_right P s t a.1

pub all_weaker : (P Q : ℕ → Type 0) → ((x : ℕ) → P x → Q x) → (s : List ℕ) → AllByRecursion P s → AllByRecursion Q s
all_weaker P Q w [] a = tt
all_weaker P Q w (x ∷ s) a = (w x a.0, all_weaker P Q w s a.1)

pub all_both : (P Q : ℕ → Type 0) (s : List ℕ) → AllByRecursion P s → AllByRecursion Q s
    → AllByRecursion (λ x. P x × Q x) s
all_both P Q [] a b = tt
all_both P Q (x ∷ s) a b = ((a.0, b.0), all_both P Q s a.1 b.1)

pub all_filter : (P : ℕ → Type 0) (q : ℕ → Bool) (s : List ℕ) → AllByRecursion P s → AllByRecursion P (filter q s)
all_filter P q [] a = tt
all_filter P q (x ∷ s) a = elim (q x) as (λ b. AllByRecursion P (cond b (x ∷ filter q s) (filter q s)))
    [ true ↦ (a.0, all_filter P q s a.1) | false ↦ all_filter P q s a.1 ]

pub all_passed : (q : ℕ → Bool) (s : List ℕ) → AllByRecursion (λ x. q x ≡ true) (filter q s)
all_passed q [] = tt
all_passed q (x ∷ s) = step (all_passed q s) (q x) refl
  where
    step : AllByRecursion (λ y. q y ≡ true) (filter q s) → (b : Bool) → q x ≡ b
        → AllByRecursion (λ y. q y ≡ true) (cond (q x) (x ∷ filter q s) (filter q s))
    step ih true e = subst (λ b. AllByRecursion (λ y. q y ≡ true) (cond b (x ∷ filter q s) (filter q s))) (sym e)
        (e, ih)
    step ih false e = subst (λ b. AllByRecursion (λ y. q y ≡ true) (cond b (x ∷ filter q s) (filter q s))) (sym e) ih

pub filter_all : (q : ℕ → Bool) (s : List ℕ) → AllByRecursion (λ x. q x ≡ true) s → filter q s ≡ s
filter_all q [] a = refl
filter_all q (x ∷ s) a = ap (λ b. cond b (x ∷ filter q s) (filter q s)) a.0 ∙ ap (λ t. x ∷ t) (filter_all q s a.1)

pub filter_none : (q : ℕ → Bool) (s : List ℕ) → AllByRecursion (λ x. q x ≡ false) s → filter q s ≡ []
filter_none q [] a = refl
filter_none q (x ∷ s) a = ap (λ b. cond b (x ∷ filter q s) (filter q s)) a.0 ∙ filter_none q s a.1

pub filter_both : (q : ℕ → Bool) (s t : List ℕ) → filter q (s ++ t) ≡ filter q s ++ filter q t
filter_both q [] t = refl
filter_both q (x ∷ s) t = elim (q x) as
    (λ b. cond b (x ∷ filter q (s ++ t)) (filter q (s ++ t)) ≡ cond b (x ∷ filter q s) (filter q s) ++ filter q t)
    [ true ↦ ap (λ r. x ∷ r) (filter_both q s t) | false ↦ filter_both q s t ]

-- ---- a set cut at a number
pub below_all : (i : ℕ) (s : List ℕ) → AllBelow i (below i s)
below_all i s = all_weaker (λ x. nat_lt x i ≡ true) (λ x. x < i) (λ x h. ltb-true x i h) (below i s)
    (all_passed (λ x. nat_lt x i) s)

pub above_at_least : (i x : ℕ) (s : List ℕ) → i ≤ x → IsAbove_set x s → AtLeast i s
above_at_least i x [] l a = tt
above_at_least i x (y ∷ s) l a = (omega (arith, l, a.0), above_at_least i x s l a.1)

-- a set is its members below the number, and then those from it on
pub record Cut (i : ℕ) (s : List ℕ) : Type 0 where
  pub is : s ≡ below i s ++ drop (length (below i s)) s
  pub at_least : AtLeast i (drop (length (below i s)) s)

pub cut : (i : ℕ) (s : List ℕ) → IsAscending s → Cut i s
cut i [] a = record { is = refl; at_least = tt }
cut i (x ∷ s) a = step (cut i s a.1) (nat_lt x i) refl
  where
    step : Cut i s → (b : Bool) → nat_lt x i ≡ b → Cut i (x ∷ s)
    step c true e =
        let w : below i (x ∷ s) ≡ x ∷ below i s = ap (λ b. cond b (x ∷ below i s) (below i s)) e in
        record {
          is = subst (λ w. x ∷ s ≡ w ++ drop (length w) (x ∷ s)) (sym w) (ap (λ t. x ∷ t) c.is);
          at_least = subst (λ w. AtLeast i (drop (length w) (x ∷ s))) (sym w) c.at_least;
        }
    step c false e =
        let l = ltb-false x i e in
        let all : AtLeast i (x ∷ s) = (l, above_at_least i x s l a.0) in
        let none = below-low i (x ∷ s) all in
        record {
          is = subst (λ w. x ∷ s ≡ w ++ drop (length w) (x ∷ s)) (sym none) refl;
          at_least = subst (λ w. AtLeast i (drop (length w) (x ∷ s))) (sym none) all;
        }

-- ---- what a section has
and_right : (a b c : Bool) → (a && (b && c)) ≡ ((a && b) && c)
and_right true b c = refl
and_right false b c = refl

-- a set is p and then s exactly where its members below the number are p and the others s
same_cut : (i : ℕ) (p s t : List ℕ) → AllBelow i p → AtLeast i s → IsAscending t
    → same (p ++ s) t ≡ (same (below i t) p && same s (drop (length p) t))
same_cut i [] s [] b a u = refl
same_cut i [] s (x ∷ t) b a u = step (nat_lt x i) refl
  where
    missing : (s : List ℕ) → AtLeast i s → x < i → same s (x ∷ t) ≡ false
    missing [] a l = refl
    missing (y ∷ s) a l = ap (λ c. c && same s t) (eqb_turned y x ∙ eqb-above x y (omega (arith, l, a.0)))

    step : (c : Bool) → nat_lt x i ≡ c → same s (x ∷ t) ≡ (same (below i (x ∷ t)) [] && same s (x ∷ t))
    step true e =
        let w : below i (x ∷ t) ≡ x ∷ below i t = ap (λ b. cond b (x ∷ below i t) (below i t)) e in
        missing s a (ltb-true x i e) ∙ sym (ap (λ w. same w [] && same s (x ∷ t)) w)
    step false e =
        let l = ltb-false x i e in
        let none = below-low i (x ∷ t) (l, above_at_least i x t l u.0) in
        sym (ap (λ w. same w [] && same s (x ∷ t)) none)
same_cut i (y ∷ p) s [] b a u = refl
same_cut i (y ∷ p) s (x ∷ t) b a u = step (same_cut i p s t b.1 a u.1) (nat_lt x i) refl
  where
    step : same (p ++ s) t ≡ (same (below i t) p && same s (drop (length p) t)) → (c : Bool) → nat_lt x i ≡ c
        → (eqb y x && same (p ++ s) t) ≡ (same (below i (x ∷ t)) (y ∷ p) && same s (drop (length p) t))
    step ih true e =
        let w : below i (x ∷ t) ≡ x ∷ below i t = ap (λ b. cond b (x ∷ below i t) (below i t)) e in
        ap₂ (λ c d. c && d) (eqb_turned y x) ih ∙ and_right (eqb x y) (same (below i t) p) (same s (drop (length p) t))
        ∙ sym (ap (λ w. same w (y ∷ p) && same s (drop (length p) t)) w)
    step ih false e =
        let l = ltb-false x i e in
        let none = below-low i (x ∷ t) (l, above_at_least i x t l u.0) in
        ap (λ c. c && same (p ++ s) t) (eqb-above y x (omega (arith, l, b.0)))
        ∙ sym (ap (λ w. same w (y ∷ p) && same s (drop (length p) t)) none)

and_or : (a b c d : Bool) → (a ≡ true → d ≡ (b || c)) → (a ≡ false → d ≡ c) → d ≡ ((a && b) || c)
and_or true b c d h k = h refl
and_or false b c d h k = k refl

pub has_section : (i : ℕ) (p s : List ℕ) (f : Family) → AllBelow i p → AtLeast i s → AllByRecursion IsAscending f
    → has (section i p f) s ≡ has f (p ++ s)
unfolding section
has_section i p s [] b a u = refl
has_section i p s (t ∷ f) b a u =
    let rest = filter (λ t. same (below i t) p) f in
    let ih : has (map (drop (length p)) rest) s ≡ has f (p ++ s) = has_section i p s f b a u.1 in
    and_or (same (below i t) p) (same s (drop (length p) t)) (has (map (drop (length p)) rest) s)
    (has (map (drop (length p)) (cond (same (below i t) p) (t ∷ rest) rest)) s)
    (λ e. ap (λ c. has (map (drop (length p)) (cond c (t ∷ rest) rest)) s) e)
    (λ e. ap (λ c. has (map (drop (length p)) (cond c (t ∷ rest) rest)) s) e)
    ∙ ap₂ (λ c d. c || d) (sym (same_cut i p s t b a u.0)) ih

-- what is told by a set of a section
pub record InSection (i : ℕ) (p s : List ℕ) (f : Family) : Type 0 where
  pub taken_below : AllBelow i p
  pub at_least : AtLeast i s
  pub whole : has f (p ++ s) ≡ true

pub in_section : (i : ℕ) (p s : List ℕ) (f : Family) → AllByRecursion IsAscending f → has (section i p f) s ≡ true
    → InSection i p s f
unfolding section
in_section i p s [] u h = absurd (true≢false (sym h))
in_section i p s (t ∷ f) u h = step (in_section i p s f u.1) (same (below i t) p) refl
  where
    later : InSection i p s f → InSection i p s (t ∷ f)
    later r = record {
      taken_below = r.taken_below;
      at_least = r.at_least;
      whole = any_more (same (p ++ s)) t f r.whole;
    }

    here : same (below i t) p ≡ true → same s (drop (length p) t) ≡ true → InSection i p s (t ∷ f)
    here e k =
        let pe = same-true (below i t) p e in
        let se = same-true s (drop (length p) t) k in
        let c = cut i t u.0 in
        let d : drop (length (below i t)) t ≡ s = ap (λ w. drop (length w) t) pe ∙ sym se in
        let te : t ≡ p ++ s = c.is ∙ ap₂ (λ w z. w ++ z) pe d in
        record {
          taken_below = subst (AllBelow i) pe (below_all i t);
          at_least = subst (AtLeast i) d c.at_least;
          whole = ap (λ b. b || has f (p ++ s)) (subst (λ w. same (p ++ s) w ≡ true) (sym te) (same-refl (p ++ s)));
        }

    step : (has (map (drop (length p)) (filter (λ t. same (below i t) p) f)) s ≡ true → InSection i p s f) → (b : Bool)
        → same (below i t) p ≡ b → InSection i p s (t ∷ f)
    step ih false e = later (ih (sym (ap
        (λ c. has (map (drop (length p)) (cond c (t ∷ filter (λ t. same (below i t) p) f)
        (filter (λ t. same (below i t) p) f))) s) e) ∙ h))
    step ih true e = inner (same s (drop (length p) t)) refl
      where
        opened : (same s (drop (length p) t) || has (map (drop (length p)) (filter (λ t. same (below i t) p) f)) s)
            ≡ true
        opened = sym (ap (λ c. has (map (drop (length p))
            (cond c (t ∷ filter (λ t. same (below i t) p) f) (filter (λ t. same (below i t) p) f))) s) e) ∙ h

        inner : (b : Bool) → same s (drop (length p) t) ≡ b → InSection i p s (t ∷ f)
        inner true k = here e k
        inner false k = later (ih (sym (ap
            (λ b. b || has (map (drop (length p)) (filter (λ t. same (below i t) p) f)) s) k) ∙ opened))

-- a family that is not empty has a set
pub has_some : (f : Family) → f ≢ [] → (s : List ℕ) × (has f s ≡ true)
has_some [] n = absurd (n refl)
has_some (s ∷ f) n = (s, ap (λ b. b || has f s) (same-refl s))

pub some_has : (f : Family) (s : List ℕ) → has f s ≡ true → f ≢ []
some_has f s h = λ e. true≢false (sym h ∙ ap (λ g. has g s) e)
