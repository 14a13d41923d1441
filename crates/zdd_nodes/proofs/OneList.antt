-- Families with the same sets are the same list.
use Rattle.std.proofs.Common.{◌≡◌, ℕ, ◌⊎◌, inl, inr, Bool, true, false, ◌||◌, List, [], ◌∷◌, Less, Equal, Greater, refl, sym, ap, ap₂, ◌∙◌, true≢false}
use Rattle.std.specs.List.{AllByRecursion}
use Rattle.zdd_nodes.specs.Families.{Family, same, has}
use Rattle.zdd_nodes.specs.FamiliesInside.{order, IsInOrder}
use Rattle.zdd_nodes.proofs.Laws.{has_each, same-true}
use Rattle.zdd_nodes.proofs.Gates.{flip, order-flip, order-refl}
use Rattle.zdd_nodes.proofs.Minimal.{member_of}

-- no set comes before itself
not_before_self : (s : List ℕ) → order s s ≡ Less → ⊥
not_before_self s h = let e : Equal ≡ Less = sym (order-refl s) ∙ h in absurd (cc)

-- nor do two sets come before each other
not_both : (s t : List ℕ) → order s t ≡ Less → order t s ≡ Less → ⊥
not_both s t h k = let e : Less ≡ Greater = sym k ∙ order-flip s t ∙ ap flip h in absurd (cc)

-- a set of a list is the first or comes after it
first_or_after : (s t : List ℕ) (f : Family) → AllByRecursion (λ u. order s u ≡ Less) f → has (s ∷ f) t ≡ true
    → (t ≡ s) ⊎ (order s t ≡ Less)
first_or_after s t f after h = step (same t s) refl
  where
    step : (b : Bool) → same t s ≡ b → (t ≡ s) ⊎ (order s t ≡ Less)
    step true e = inl (same-true t s e)
    step false e = inr (member_of (λ u. order s u ≡ Less) f t after (ap (λ b. b || has f t) (sym e) ∙ h))

-- the first set does not come again
not_again : (s : List ℕ) (f : Family) → AllByRecursion (λ u. order s u ≡ Less) f → has f s ≡ false
not_again s f after = step (has f s) refl
  where
    step : (b : Bool) → has f s ≡ b → has f s ≡ false
    step true e = absurd (not_before_self s (member_of (λ u. order s u ≡ Less) f s after e))
    step false e = e

pub same_sets : (f g : Family) → IsInOrder f → IsInOrder g → ((s : List ℕ) → has f s ≡ has g s) → f ≡ g
same_sets [] [] a b h = refl
same_sets [] (t ∷ g) a b h = absurd (true≢false (sym (has_each (t ∷ g)).0 ∙ sym (h t)))
same_sets (s ∷ f) [] a b h = absurd (true≢false (sym (has_each (s ∷ f)).0 ∙ h s))
same_sets (s ∷ f) (t ∷ g) a b h = ap₂ (λ (x : List ℕ) (y : Family). x ∷ y) first (same_sets f g a.1 b.1 rest)
  where
    first : s ≡ t
    first = elim (first_or_after t s g b.0 (sym (h s) ∙ (has_each (s ∷ f)).0)) [
      | inl is ↦ is
      | inr later ↦ elim (first_or_after s t f a.0 (h t ∙ (has_each (t ∷ g)).0))
          [ inl is ↦ sym is | inr earlier ↦ absurd (not_both s t earlier later) ]
    ]

    rest : (u : List ℕ) → has f u ≡ has g u
    rest u = step (same u s) refl
      where
        step : (c : Bool) → same u s ≡ c → has f u ≡ has g u
        step true e =
            let is : u ≡ s = same-true u s e in
            ap (has f) is ∙ not_again s f a.0 ∙ sym (ap (has g) (is ∙ first) ∙ not_again t g b.0)
        step false e =
            let other : same u t ≡ false = ap (same u) (sym first) ∙ e in
            sym (ap (λ d. d || has f u) e) ∙ h u ∙ ap (λ d. d || has g u) other
