-- Rows of bits, one for each number.
use Rattle.std.specs.Prelude.{◌≡◌, ℕ, zero, suc, ◌+◌, ◌-◌, ◌/◌, ◌%◌, ◌<◌, List, [], ◌∷◌, Vec, length, slice_index}
use Rattle.std.specs.Global.{Global}
use Rattle.ar_base.specs.Lists.{IsOneOf}
pub use Rattle.lane_rows.specs.Rows.{IsSet, words_for}
use Rattle.flow_blocks.specs.Blocks.{Depends}

-- the row of number a, empty where there is none
abbrev pub row_of : List (Vec ℕ Global) → ℕ → List ℕ
row_of [] a = []
row_of (row ∷ rows) zero = row.items
row_of (row ∷ rows) (suc a) = row_of rows a

-- bit n of the row of number a is set
abbrev pub HasBit : List (Vec ℕ Global) → ℕ → ℕ → Type 0
HasBit rows a n = IsSet (row_of rows a) n

-- a row of that many bits for each number below count
pub record AreRows (count : ℕ) (rows : List (Vec ℕ Global)) : Type 0 where
  pub long : length rows ≡ count
  pub wide : (a : ℕ) → a < count → length (row_of rows a) ≡ words_for count

-- how far the words are from having all their bits set
abbrev pub room_of : List ℕ → ℕ
room_of [] = 0
room_of (word ∷ row) = (18446744073709551616 - word) + room_of row

abbrev pub room_left : List (Vec ℕ Global) → ℕ
room_left [] = 0
room_left (row ∷ rows) = room_of row.items + room_left rows

-- each bit that is set in the rows is a dependence
abbrev pub AreDependences : List (ℕ × ℕ) → List (Vec ℕ Global) → Type 0
AreDependences uses rows = (a n : ℕ) → HasBit rows a n → Depends uses a n

-- each number's row has the bits of those that it uses, by these uses, and of their rows
pub record AreClosed (uses : List (ℕ × ℕ)) (rows : List (Vec ℕ Global)) : Type 0 where
  pub closed : (a b n : ℕ) → IsOneOf uses (a, b) → HasBit rows b n → HasBit rows a n

-- the rows have exactly the bits of the dependences
pub record AreAllDependences (count : ℕ) (uses : List (ℕ × ℕ)) (rows : List (Vec ℕ Global)) : Type 0 where
  pub are_rows : AreRows count rows
  pub sound : AreDependences uses rows
  pub complete : (a n : ℕ) → a < count → Depends uses a n → HasBit rows a n
