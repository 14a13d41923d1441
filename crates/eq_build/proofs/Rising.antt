-- Groups that rise, by their places.
use Rattle.std.proofs.Common.{◌≡◌, ℕ, zero, suc, ◌+◌, ◌<◌, ◌⊎◌, inl, inr, true, List, [], ◌∷◌, map, length, get_or, set, refl, sym, ap, ◌∙◌, subst, arith}
use Rattle.std.proofs.lemmas.List.{get_or_default}
use Rattle.std.specs.List.{AllWithin}
use Rattle.ar_base.proofs.Standing.{stands_get, stands_map, one_here}
use Rattle.domains.specs.Values.{is_before}
use Rattle.domains.specs.declared.Value.{Value}
use Rattle.domains.proofs.Order.{is_before-trans}
use Rattle.eq_build.specs.EntriesInside.{Rises}
use Rattle.eq_build.specs.Views.{group_of}
use Rattle.eq_build.specs.declared.groups.Group as flat

-- a group comes before one at a later place
pub rises_at : (ps : List flat.Group) → Rises (map group_of ps) → (i j : ℕ) (d : flat.Group) → i < j → j < length ps
    → is_before (get_or ps i d).value (get_or ps j d).value ≡ true
rises_at [] r i j d l h = absurd (omega (arith, h))
rises_at (p ∷ ps) r i zero d l h = absurd (omega (arith, l))
rises_at (p ∷ ps) r zero (suc j) d l h =
    r.0 (group_of (get_or ps j d))
    (one_here (map group_of ps) j (group_of (get_or ps j d))
    (stands_map group_of ps j (get_or ps j d) (stands_get ps j d (omega (arith, h)))))
rises_at (p ∷ ps) r (suc i) (suc j) d l h = rises_at ps r.1 i j d (omega (arith, l)) (omega (arith, h))

-- where one comes before the value, so do those up to it
pub lower_to : (ps : List flat.Group) (v : Value) (m : ℕ) (x : flat.Group) → Rises (map group_of ps) → m < length ps
    → x ≡ get_or ps m x → is_before x.value v ≡ true
    → AllWithin (λ (p : flat.Group). is_before p.value v ≡ true) ps 0 (m + 1)
lower_to ps v m x r l is h = λ k d a b. at k d (below k b)
  where
    below : (k : ℕ) → k < m + 1 → (k ≡ m) ⊎ (k < m)
    below k b = by k m b
      where
        by : (i j : ℕ) → i < j + 1 → (i ≡ j) ⊎ (i < j)
        by zero zero b = inl refl
        by zero (suc j) b = inr (omega arith)
        by (suc i) zero b = absurd (omega (arith, b))
        by (suc i) (suc j) b = elim (by i j (omega (arith, b)))
            [ inl e ↦ inl (ap suc e) | inr q ↦ inr (omega (arith, q)) ]

    here : (d : flat.Group) → is_before (get_or ps m d).value v ≡ true
    here d = subst (λ (z : flat.Group). is_before z.value v ≡ true) (is ∙ get_or_default ps m x d l) h

    at : (k : ℕ) (d : flat.Group) → (k ≡ m) ⊎ (k < m) → is_before (get_or ps k d).value v ≡ true
    at k d (inl e) = subst (λ n. is_before (get_or ps n d).value v ≡ true) (sym e) (here d)
    at k d (inr q) =
        is_before-trans (get_or ps k d).value (get_or ps m d).value v (rises_at ps r k m d q l) (here d)

-- a group in place of one that looks the same changes nothing
pub set_same : (ps : List flat.Group) (k : ℕ) (q : flat.Group) → k < length ps
    → ((d : flat.Group) → group_of q ≡ group_of (get_or ps k d)) → map group_of (set ps k q) ≡ map group_of ps
set_same [] k q l e = refl
set_same (p ∷ ps) zero q l e = ap (λ z. z ∷ map group_of ps) (e p)
set_same (p ∷ ps) (suc k) q l e = ap (λ z. group_of p ∷ z) (set_same ps k q (omega (arith, l)) e)
