-- The numbers by a sum of their rows.
use Rattle.std.specs.Prelude.{◌≡◌, ℕ, ◌+◌, ◌*◌, ◌/◌, ◌%◌, ◌^◌, ◌<◌, List, [], ◌∷◌, Vec, length}
use Rattle.std.specs.Global.{Global}
use Rattle.ar_base.specs.Lists.{IsOneOf}
use Rattle.ar_base.specs.Sets.{Ascends}
use Rattle.flow_blocks.specs.Bits.{row_of}

-- the sum with one word more
abbrev pub mixed : ℕ → ℕ → ℕ
mixed sum word = ((sum * 11400714819323198485 % 2 ^ 64 + sum / 2 ^ 32) % 2 ^ 64 + word) % 2 ^ 64

-- the sum of a row, behind words that have this one
abbrev pub row_sum : ℕ → List ℕ → ℕ
row_sum sum [] = sum
row_sum sum (word ∷ row) = row_sum (mixed sum word) row

-- the slot of a row, where there are that many
abbrev pub slot_of : ℕ → List ℕ → ℕ
slot_of count row = row_sum 0 row % count

-- the numbers below `end` by the slots of their rows
pub record AreSlots (count : ℕ) (rows : List (Vec ℕ Global)) (end : ℕ) (slots : List (Vec ℕ Global)) : Type 0 where
  pub long : length slots ≡ count
  pub below : (slot n : ℕ) → IsOneOf (row_of slots slot) n → n < end
  pub each : (n : ℕ) → n < end → IsOneOf (row_of slots (slot_of count (row_of rows n))) n
  pub ascending : (slot : ℕ) → Ascends (row_of slots slot)
