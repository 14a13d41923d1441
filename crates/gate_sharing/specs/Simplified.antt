-- Tables with the same values.
use Rattle.std.specs.Prelude.{◌≡◌, ℕ, List}
use Rattle.eq_core.specs.Gates.{Table}
use Rattle.eq_core.specs.Values.{value_at}

-- at every set of events, also at one that cannot happen, the conflict operand of the second table has the value of that of
-- the first, and so has the top operand
pub record HaveSameValues (old new : Table) : Type 0 where
  pub conflict : (set : List ℕ) → value_at new.gates new.conflict set ≡ value_at old.gates old.conflict set
  pub top : (set : List ℕ) → value_at new.gates new.top set ≡ value_at old.gates old.top set
