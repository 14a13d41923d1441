-- The ways of each variable.
use Rattle.std.specs.Prelude.{◌≡◌, ◌<◌, ◌++◌, ℕ, Bool, ◌&&◌, nat_eq, List, [], ◌∷◌, length, Vec}
use Rattle.std.specs.List.{filter}
use Rattle.std.specs.Global.{Global}
use Rattle.ar_base.specs.Lists.{Stands}
use Rattle.mode_search.specs.declared.kept.KeptWay.{KeptWay}

-- whether the way is visible and its mode variable is the one of number n
abbrev pub is_of : ℕ → KeptWay → Bool
is_of n k = k.visible && nat_eq k.mode.variable.n n

-- the visible ways of the variable of number n, in order
abbrev pub variable_ways : ℕ → List KeptWay → List KeptWay
variable_ways n kept = filter (is_of n) kept

-- the mode variables of the ways are among the first so many
pub record HaveVariablesBelow (count : ℕ) (kept : List KeptWay) : Type 0 where
  pub below : (q : ℕ) (k : KeptWay) → Stands kept q k → k.mode.variable.n < count

-- for each of so many variables its visible ways
pub record AreVariableRows (count : ℕ) (kept : List KeptWay) (rows : List (Vec KeptWay Global)) : Type 0 where
  pub long : length rows ≡ count
  pub row : (n : ℕ) (r : Vec KeptWay Global) → Stands rows n r → r.items ≡ variable_ways n kept

-- the way was put into the row of its variable, where it is visible
pub record PutsKeptWay (way : KeptWay) (old new : List (Vec KeptWay Global)) : Type 0 where
  pub on : (count : ℕ) (kept : List KeptWay) → AreVariableRows count kept old → AreVariableRows count (kept ++ way ∷ []) new
