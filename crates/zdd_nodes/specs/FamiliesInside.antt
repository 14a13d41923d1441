-- Definitions beside those of Families, of which clauses inside the program speak: what the whole program promises does
-- not rest on them.
use Rattle.std.specs.Prelude.{◌≡◌, ℕ, ◌<◌, not, List, [], ◌∷◌, ◌++◌, map}
use Rattle.ar_base.specs.Sets.{Ascends}
use Rattle.std.specs.List.{filter, AllByRecursion}
use Rattle.std.specs.Ordering.{nat_cmp, ordering_then}
use Rattle.std.specs.declared.cmp.Ordering.{Ordering}
use Rattle.std.specs.declared.cmp.Ordering.TheVariants.{Less, Equal, Greater}
use Rattle.zdd_nodes.specs.Families.{Family, holds, has}

-- Less where the first of two ascending sets comes before the second, as `IsBefore` says
abbrev pub order : List ℕ → List ℕ → Ordering
order [] [] = Equal
order [] (y ∷ t) = Greater
order (x ∷ s) [] = Less
order (x ∷ s) (y ∷ t) = ordering_then (nat_cmp x y) (order s t)

-- the sets of hi with the event v added, and the sets of lo
abbrev pub node : ℕ → Family → Family → Family
node v lo hi = map (λ s. v ∷ s) hi ++ lo

-- each member of each set is above v
abbrev pub IsAbove : ℕ → Family → Type 0
IsAbove v f = AllByRecursion (λ s. AllByRecursion (λ x. v < x) s) f

-- each set comes before those that stand after it
abbrev pub IsInOrder : Family → Type 0
IsInOrder [] = Unit {0}
IsInOrder (s ∷ f) = AllByRecursion (λ t. order s t ≡ Less) f × IsInOrder f

-- a family as it is kept: each set ascending, the sets in order and so without repeats
pub record IsFamily (f : Family) : Type 0 where
  pub ascending : AllByRecursion Ascends f
  pub in_order : IsInOrder f

-- the sets that are in both
unfoldable pub meet : Family → Family → Family
meet f g = filter (has g) f

-- the sets of f that are not in g
unfoldable pub minus : Family → Family → Family
minus f g = filter (λ s. not (has g s)) f

-- the sets of f that contain the event
unfoldable pub having : Family → ℕ → Family
having f e = filter (holds e) f

-- the set s, which comes before the sets of f, is put in its place among the sets of g; rest joins f with the sets that
-- are left of g
abbrev pub place : List ℕ → (Family → Family) → Family → Family → Family
place s rest f [] = s ∷ f
place s rest f (t ∷ g) = elim (order s t)
    [ Less ↦ s ∷ rest (t ∷ g) | Equal ↦ s ∷ rest g | Greater ↦ t ∷ place s rest f g ]

-- the sets that are in f or in g, in order
unfoldable pub union : Family → Family → Family
union [] g = g
union (s ∷ f) g = place s (union f) f g
