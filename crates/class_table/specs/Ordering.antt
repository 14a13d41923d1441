-- Bodies in an order in which each comes after those inside it.
use Rattle.std.specs.Prelude.{◌≡◌, ◌<◌, ◌≤◌, ℕ, ◌⊎◌, Vec, List, length}
use Rattle.std.specs.Global.{Global}
use Rattle.ar_base.specs.Lists.{Stands, IsOneOf}
use Rattle.class_table.specs.Declaring.{Declared}
use Rattle.class_table.specs.Rules.{HasInside}
use Rattle.class_table.specs.Rows.{IsInRow}
use Rattle.class_table.specs.Searching.{IsSeen}
use Rattle.class_table.specs.declared.order.Sorting.{Sorting}

-- each number comes after those in its row
pub record IsAfter (rows : List (Vec ℕ Global)) (order : List ℕ) : Type 0 where
  pub each : (k a b : ℕ) → Stands order k a → IsInRow rows a b → (j : ℕ) × (j < k) × Stands order j b

-- each number that is not in the order has one in its row that is not in it either
pub record IsOrderStuck (rows : List (Vec ℕ Global)) (order : List ℕ) : Type 0 where
  pub each : (a : ℕ) → a < length rows → (IsOneOf order a → ⊥)
      → (b : ℕ) × IsInRow rows a b × (IsOneOf order b → ⊥)

-- the numbers of the rows in an order in which each comes after those in its row, as far as there is one
pub record IsBodyOrder (rows : List (Vec ℕ Global)) (order : List ℕ) : Type 0 where
  pub within : (a : ℕ) → IsOneOf order a → a < length rows
  pub after : IsAfter rows order
  pub stuck : IsOrderStuck rows order
  pub whole : length rows ≤ length order → (a : ℕ) → a < length rows → IsOneOf order a

-- As the order grows

-- the number waits for one of its row that is not among the first ones of the order
pub record WaitsFor (rows : List (Vec ℕ Global)) (s : Sorting) (next a : ℕ) : Type 0 where
  pub other : ℕ
  pub waits : IsInRow s.waiting.items other a
  pub in_row : IsInRow rows a other
  pub later : (k : ℕ) → Stands s.order.items k other → next ≤ k

-- each number is in the order, waits for one that is not among the first ones there, or is still to be settled
pub record IsSorting (rows : List (Vec ℕ Global)) (s : Sorting) (next : ℕ) (pending : List ℕ) : Type 0 where
  pub long_rows : length s.rows.items ≡ length rows
  pub long_waiting : length s.waiting.items ≡ length rows
  pub long_placed : length s.placed.items ≡ length rows
  pub within : (a b : ℕ) → IsInRow rows a b → b < length rows
  pub is_seen : IsSeen s.placed.items s.order.items
  pub taken : next ≤ length s.order.items
  pub fewer : (a b : ℕ) → IsInRow s.rows.items a b → IsInRow rows a b
  pub left : (a b : ℕ) → IsInRow rows a b → IsOneOf s.order.items b ⊎ IsInRow s.rows.items a b
  pub after : IsAfter rows s.order.items
  pub each : (a : ℕ) → a < length rows → IsOneOf s.order.items a ⊎ (WaitsFor rows s next a ⊎ IsOneOf pending a)
  pub waiters : (a b : ℕ) → IsInRow s.waiting.items a b → b < length rows
  pub to_settle : (a : ℕ) → IsOneOf pending a → a < length rows

-- some rows make this a state of the sorting
pub record Sorts (s : Sorting) (next : ℕ) (pending : List ℕ) : Type 0 where
  pub rows : List (Vec ℕ Global)
  pub is : IsSorting rows s next pending

-- Orders that a model declares

-- the order has each body, after all bodies inside it
pub record IsComplete (d : Declared) (order : List ℕ) : Type 0 where
  pub within : (a : ℕ) → IsOneOf order a → a < length d.bodies
  pub after : (k a b : ℕ) → Stands order k a → HasInside d a b → (j : ℕ) × (j < k) × Stands order j b
  pub all : (a : ℕ) → a < length d.bodies → IsOneOf order a
