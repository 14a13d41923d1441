-- Families of sets of events, and what the operations make of them.
use Rattle.std.specs.Prelude.{ℕ, Bool, true, false, not, ◌&&◌, eqb, List, [], ◌∷◌}
use Rattle.std.specs.List.{filter, list_any, list_all}

-- A set of events is the list of its numbers, ascending. A family is the list of its sets in the order in which
-- sets are listed, without repeats, so that equal families are equal lists.
abbrev pub Family : Type 0
Family = List (List ℕ)

-- whether the two lists are one
abbrev pub same : List ℕ → List ℕ → Bool
same [] [] = true
same [] (y ∷ t) = false
same (x ∷ s) [] = false
same (x ∷ s) (y ∷ t) = eqb x y && same s t

-- whether x is a member of the set
abbrev pub holds : ℕ → List ℕ → Bool
holds x s = list_any (λ y. eqb x y) s

-- whether each member of s is one of t
abbrev pub within : List ℕ → List ℕ → Bool
within s t = list_all (λ x. holds x t) s

-- whether s is a set of the family
abbrev pub has : Family → List ℕ → Bool
has f s = list_any (same s) f

-- the sets of f that contain no set of g
unfoldable pub without : Family → Family → Family
without f g = filter (λ s. not (list_any (λ t. within t s) g)) f

-- the sets of f of which no proper subset is in f
unfoldable pub minimal : Family → Family
minimal f = filter (λ s. not (list_any (λ t. within t s && not (same t s)) f)) f
