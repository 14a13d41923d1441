-- Sums along lists.
use Rattle.std.proofs.Common.{◌≡◌, ℕ, ◌+◌, List, [], ◌∷◌, ◌++◌, map, take, sum, ◌∙◌, ap}
use Rattle.std.proofs.lemmas.List.Sums.{sum_by-append}
use Rattle.ar_base.specs.Lists.{Stands}
use Rattle.class_table.proofs.Taken.{take_next, map_join}

module _ {A : Type 0} (f : A → ℕ) where
  -- the sum over joined lists
  pub sum_join : (xs ys : List A) → sum (map f (xs ++ ys)) ≡ sum (map f xs) + sum (map f ys)
  sum_join xs ys = ap sum (map_join f xs ys) ∙ sum_by-append (λ (n : ℕ). n) (map f xs) (map f ys)

  -- the sum with one item more
  pub sum_next : (xs : List A) (i : ℕ) (a : A) → Stands xs i a
      → sum (map f (take (i + 1) xs)) ≡ sum (map f (take i xs)) + sum (map f (a ∷ []))
  sum_next xs i a s = ap (λ (ys : List A). sum (map f ys)) (take_next xs i a s) ∙ sum_join (take i xs) (a ∷ [])
