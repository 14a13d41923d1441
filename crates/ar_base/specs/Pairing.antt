-- The numbers that stand in pairs with firsts.
use Rattle.std.specs.Prelude.{◌↔◌, ◌⊎◌, ℕ, List}
use Rattle.ar_base.specs.Lists.{IsOneOf}

-- one of these firsts stands in a pair with the number
pub record IsPaired (pairs : List (ℕ × ℕ)) (firsts : List ℕ) (n : ℕ) : Type 0 where
  pub first : ℕ
  pub is_one : IsOneOf firsts first
  pub pair : IsOneOf pairs (first, n)

-- the list got the numbers that stand in pairs with the first
pub record AddsRun (pairs : List (ℕ × ℕ)) (first : ℕ) (old new : List ℕ) : Type 0 where
  pub each : (n : ℕ) → (IsOneOf new n ↔ (IsOneOf old n ⊎ IsOneOf pairs (first, n)))
