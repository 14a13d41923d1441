-- What is left of the firable sets after some events are sections of their family.
use Rattle.std.proofs.Common.{◌≡◌, ℕ, zero, suc, ◌+◌, ◌<◌, ◌≤◌, Bool, true, false, cond, ◌&&◌, eqb, List, [], ◌∷◌, refl, sym, ap, ap₂, ◌∙◌, subst, arith, eqb-true, lt_trans}
use Rattle.std.specs.List.{AllByRecursion, list_all}
use Rattle.std.proofs.lemmas.Bool.Decides.{nat_tests}
use Rattle.zdd_nodes.specs.Families.{Family, has}
use Rattle.zdd_nodes.specs.FamiliesInside.{node, IsAbove}
use Rattle.zdd_nodes.specs.Sections.{section}
use Rattle.zdd_nodes.proofs.Ascending.{IsAscending}
use Rattle.zdd_nodes.proofs.Laws.{IsAbove_set, IsAbove-node}
use Rattle.zdd_nodes.proofs.Sections.{AtLeast, section-low, section-with, section-without, low_all, section-nil}
use Rattle.firable_families.specs.Walk.{left, after, could, all_lower, all_taken, some_occurs}

pub left_above : (v k i : ℕ) (fs : List Family) → v < i → IsAbove v (left k i fs)
left_above v zero i fs h = elim (list_all (λ f. has f []) fs) as (λ b. IsAbove v (cond b ([] ∷ []) []))
    [ true ↦ (tt, tt) | false ↦ tt ]
left_above v (suc k) i fs h = IsAbove-node v i (left k (suc i) (all_lower i fs))
    (cond (some_occurs i fs) (left k (suc i) (all_taken i fs)) []) h
    (left_above i k (suc i) (all_lower i fs) (omega arith))
    (elim (some_occurs i fs) as (λ b. IsAbove i (cond b (left k (suc i) (all_taken i fs)) []))
    [ true ↦ left_above i k (suc i) (all_taken i fs) (omega arith) | false ↦ tt ])

each_low : (k i : ℕ) (fs : List Family) → AllByRecursion (AtLeast i) (left k i fs)
each_low k zero fs = every_low (left k zero fs)
  where
    set_low : (s : List ℕ) → AtLeast zero s
    set_low [] = tt
    set_low (x ∷ s) = (omega arith, set_low s)

    every_low : (f : Family) → AllByRecursion (AtLeast zero) f
    every_low [] = tt
    every_low (s ∷ f) = (set_low s, every_low f)
each_low k (suc i) fs = low_all (suc i) i (left k (suc i) fs) (omega arith) (left_above i k (suc i) fs (omega arith))

pub above_all : (i x : ℕ) (p : List ℕ) → i < x → IsAscending (x ∷ p) → IsAbove_set i (x ∷ p)
above_all i x p h a = (h, rest p a.0)
  where
    rest : (p : List ℕ) → IsAbove_set x p → IsAbove_set i p
    rest [] a = tt
    rest (y ∷ p) a = (lt_trans h a.0, rest p a.1)

pub at_least : (i x : ℕ) (p : List ℕ) → i ≤ x → IsAbove_set x p → AtLeast (suc i) p
at_least i x [] h a = tt
at_least i x (y ∷ p) h a = (omega (arith, a.0, h), at_least i x p h a.1)

-- the section at the events below e with exactly those of p is the family of what is left after these events
pub left_section : (c n k i e : ℕ) (p : List ℕ) (fs : List Family) → n ≡ c + k → e ≡ c + i → IsAscending p → AtLeast i p
    → AllByRecursion (λ x. x < e) p
    → section e p (left n i fs) ≡ cond (could c i p fs) (left k e (after c i p fs)) []
left_section zero n k i e [] fs m q a l u =
    let h : e ≡ i = omega (arith, q) in
    let g : n ≡ k = omega (arith, m) in
    section-low e (left n i fs) (subst (λ z. AllByRecursion (AtLeast z) (left n i fs)) (sym h) (each_low n i fs))
    ∙ ap₂ (λ y z. left y z fs) g (sym h)
left_section zero n k i e (x ∷ p) fs m q a l u = absurd (omega (arith, q, l.0, u.0))
left_section (suc c) zero k i e p fs m q a l u = absurd (omega (arith, m))
left_section (suc c) (suc n) k i e [] fs m q a l u =
    section-without i e [] (left n (suc i) (all_lower i fs))
    (cond (some_occurs i fs) (left n (suc i) (all_taken i fs)) []) (omega (arith, q)) tt
    ∙ left_section c n k (suc i) e [] (all_lower i fs) (omega (arith, m)) (omega (arith, q)) tt tt tt
left_section (suc c) (suc n) k i e (x ∷ p) fs m q a l u = step (eqb x i) refl
    (left_section c n k (suc i) e p (all_taken i fs) (omega (arith, m)) (omega (arith, q)) a.1 (at_least i x p l.0 a.0)
    u.1)
    (λ h. left_section c n k (suc i) e (x ∷ p) (all_lower i fs) (omega (arith, m)) (omega (arith, q)) a
    (omega (arith, h), at_least i x p l.0 a.0) u)
  where
    lo : Family
    lo = left n (suc i) (all_lower i fs)

    with_it : Family
    with_it = left n (suc i) (all_taken i fs)

    result : Bool → Family
    result b = cond (cond b (some_occurs i fs && could c (suc i) p (all_taken i fs))
        (could c (suc i) (x ∷ p) (all_lower i fs)))
        (left k e (cond b (after c (suc i) p (all_taken i fs)) (after c (suc i) (x ∷ p) (all_lower i fs)))) []

    step : (b : Bool) → eqb x i ≡ b → section e p with_it
        ≡ cond (could c (suc i) p (all_taken i fs)) (left k e (after c (suc i) p (all_taken i fs))) []
        → (i < x → section e (x ∷ p) lo ≡ cond (could c (suc i) (x ∷ p) (all_lower i fs))
        (left k e (after c (suc i) (x ∷ p) (all_lower i fs))) [])
        → section e (x ∷ p) (node i lo (cond (some_occurs i fs) with_it [])) ≡ result (eqb x i)
    step true h taking leaving =
        ap (λ z. section e (z ∷ p) (node i lo (cond (some_occurs i fs) with_it []))) (eqb-true x i h)
        ∙ section-with i e p lo (cond (some_occurs i fs) with_it []) (omega (arith, q))
        (left_above i n (suc i) (all_lower i fs) (omega arith))
        ∙ elim (some_occurs i fs) as (λ b. section e p (cond b with_it [])
        ≡ cond (b && could c (suc i) p (all_taken i fs)) (left k e (after c (suc i) p (all_taken i fs))) [])
        [ true ↦ taking | false ↦ section-nil e p ]
        ∙ ap result (sym h)
    step false h taking leaving =
        let less : i < x = grind (arith, nat_tests, h, l.0) in
        section-without i e (x ∷ p) lo (cond (some_occurs i fs) with_it []) (omega (arith, q)) (above_all i x p less a)
        ∙ leaving less
        ∙ ap result (sym h)
