-- Ranks of numbers that rows lead to.
use Rattle.std.specs.Prelude.{◌≡◌, ◌<◌, ◌≤◌, ◌+◌, ◌⊎◌, ℕ, Vec, List, [], ◌∷◌, length, Option, Some, None}
use Rattle.std.specs.Global.{Global}
use Rattle.ar_base.specs.Lists.{Stands, IsOneOf}
use Rattle.class_table.specs.Rows.{IsInRow}

-- the number has a rank that is at most this
pub record HasRankTo (ranks : List (Option ℕ)) (a s : ℕ) : Type 0 where
  pub rank : ℕ
  pub stands : Stands ranks a (Some rank)
  pub at_most : rank ≤ s

-- where a number in a row has a rank, the number of the row has one that is at most as great
pub record AreRanks (rows : List (Vec ℕ Global)) (ranks : List (Option ℕ)) : Type 0 where
  pub each : (a b s : ℕ) → IsInRow rows a b → Stands ranks b (Some s) → HasRankTo ranks a s

-- the row of each number has those in whose rows it is
pub record AreTurned (rows sources : List (Vec ℕ Global)) : Type 0 where
  pub long : length sources ≡ length rows
  pub each : (a b : ℕ) → IsInRow rows a b → b < length rows → IsInRow sources b a

-- As ranks are given

-- how many have no rank
abbrev pub count_unranked : List (Option ℕ) → ℕ
count_unranked [] = 0
count_unranked (None ∷ ranks) = count_unranked ranks + 1
count_unranked (Some r ∷ ranks) = count_unranked ranks

-- the ranks are those of the rows but for the numbers that are open or pending, which have the rank that is given now, the
-- greatest so far
pub record IsRanking (rows : List (Vec ℕ Global)) (now : ℕ) (ranks : List (Option ℕ)) (open_ones pending : List ℕ) : Type
    0 where
  pub long : length ranks ≡ length rows
  pub top : (b s : ℕ) → Stands ranks b (Some s) → s ≤ now
  pub is_open : (b : ℕ) → IsOneOf open_ones b → Stands ranks b (Some now)
  pub is_pending : (b : ℕ) → IsOneOf pending b → Stands ranks b (Some now)
  pub closed : (a b s : ℕ) → IsInRow rows a b → Stands ranks b (Some s)
      → IsOneOf open_ones b ⊎ (IsOneOf pending b ⊎ HasRankTo ranks a s)

-- the number has a rank of at most this, if there is such a number
abbrev pub IsMarked : ℕ → ℕ → List (Option ℕ) → Type 0
IsMarked number now ranks = number < length ranks → HasRankTo ranks number now

-- the number goes into the rows of these, as far as there are such rows, and what was there stays
pub record AddsSource (row : List ℕ) (from_one : ℕ) (old new : List (Vec ℕ Global)) : Type 0 where
  pub kept : (b a : ℕ) → IsInRow old b a → IsInRow new b a
  pub added : (b : ℕ) → IsOneOf row b → b < length old → IsInRow new b from_one

-- how many entries rows have
abbrev pub count_entries : List (Vec ℕ Global) → ℕ
count_entries [] = 0
count_entries (row ∷ rows) = length row.items + count_entries rows
