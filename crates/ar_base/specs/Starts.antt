-- Where the pairs of each first stand among pairs in the order of their firsts.
use Rattle.std.specs.Prelude.{◌↔◌, ◌+◌, ◌<◌, ◌≤◌, ℕ, List, length}
use Rattle.ar_base.specs.Lists.{Stands, IsOneOf}

-- before this place stand the pairs with lesser firsts, and no others
pub record IsPairStart (pairs : List (ℕ × ℕ)) (first start : ℕ) : Type 0 where
  pub within : start ≤ length pairs
  pub before : (k : ℕ) (q : ℕ × ℕ) → Stands pairs k q → (k < start ↔ q.0 < first)

-- the starts of all numbers up to the greatest first, and of the number after: the pairs with first x stand from starts
-- x up
-- to starts (x + 1), and no others stand there
pub record ArePairStarts (pairs : List (ℕ × ℕ)) (starts : List ℕ) : Type 0 where
  pub each : (first start : ℕ) → Stands starts first start → IsPairStart pairs first start
  pub all : (q : ℕ × ℕ) → IsOneOf pairs q → q.0 + 1 < length starts
