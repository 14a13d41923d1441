-- Definitions beside those of Modules, of which clauses inside the program speak: what the whole program promises does
-- not rest on them.
use Rattle.std.specs.Prelude.{◌≡◌, ◌⊎◌, ◌<◌, ℕ, true, List}
use Rattle.ar_base.specs.Lists.{Stands}
use Rattle.gate_modules.specs.declared.ranges.Range.{Range}
use Rattle.gate_modules.specs.Modules.{lies, Covers}

-- Ranges of units

-- no event is of both ranges
abbrev pub ShareNoEvent : Range → Range → Type 0
ShareNoEvent a b = (e : ℕ) → lies a e ≡ true → lies b e ≡ true → ⊥

-- the range has an event
abbrev pub HasEvents : Range → Type 0
HasEvents r = r.from < r.to

-- ranges of units, by the numbers of the units: of two that have events, no event is of both, or those of the unit with
-- the greater number are among those of the other
pub record AreRanges (ranges : List Range) : Type 0 where
  pub ascend : (j k : ℕ) (a b : Range) → j < k → Stands ranges j a → Stands ranges k b → a.unit.n < b.unit.n
  pub nested : (j k : ℕ) (a b : Range) → j < k → Stands ranges j a → Stands ranges k b → HasEvents a → HasEvents b
      → ShareNoEvent a b ⊎ Covers a b
