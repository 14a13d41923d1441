-- Definitions beside those of Blocks, of which clauses inside the program speak: what the whole program promises does
-- not rest on them.
use Rattle.std.specs.Prelude.{ℕ, ◌<◌, List}
use Rattle.ar_base.specs.Lists.{IsOneOf}

-- all numbers of the uses are below count
abbrev pub AreUsesBelow : ℕ → List (ℕ × ℕ) → Type 0
AreUsesBelow count uses = (a b : ℕ) → IsOneOf uses (a, b) → (a < count) × (b < count)
