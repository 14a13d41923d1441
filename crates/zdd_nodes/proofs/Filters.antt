-- Filters of a family.
use Rattle.std.proofs.Common.{◌≡◌, ℕ, Bool, true, false, cond, not, List, [], ◌∷◌, filter, Less, refl, sym, ap, ◌∙◌}
use Rattle.ar_base.specs.Sets.{Ascends}
use Rattle.zdd_nodes.specs.Families.{Family, has}
use Rattle.zdd_nodes.specs.FamiliesInside.{order, IsInOrder, IsFamily, minus}
use Rattle.zdd_nodes.proofs.Laws.{filter_alike, each-filter, each_of, has_each, has-filter-yes, has-filter-no}

pub minus-filter : (p : List ℕ → Bool) (f : Family) → minus f (filter p f) ≡ filter (λ s. not (p s)) f
unfolding minus
minus-filter p f = filter_alike (λ s. not (has (filter p f) s)) (λ s. not (p s)) f
    (each_of (λ s. has f s ≡ true) (λ s. not (has (filter p f) s) ≡ not (p s)) (λ s k. ap not (decide s (p s) refl k)) f
    (has_each f))
  where
    decide : (s : List ℕ) (b : Bool) → p s ≡ b → has f s ≡ true → has (filter p f) s ≡ p s
    decide s true e k = has-filter-yes p s f e k ∙ sym e
    decide s false e k = has-filter-no p s f e ∙ sym e

order-filter : (p : List ℕ → Bool) (f : Family) → IsInOrder f → IsInOrder (filter p f)
order-filter p [] o = tt
order-filter p (s ∷ f) o = elim (p s) as (λ b. IsInOrder (cond b (s ∷ filter p f) (filter p f))) [
  | true ↦ (each-filter (λ t. order s t ≡ Less) p f o.0, order-filter p f o.1)
  | false ↦ order-filter p f o.1
]

-- a filter of a family is one
pub IsFamily-filter : (p : List ℕ → Bool) (f : Family) → IsFamily f → IsFamily (filter p f)
IsFamily-filter p f h = record {
  ascending = each-filter Ascends p f h.ascending;
  in_order = order-filter p f h.in_order;
}
