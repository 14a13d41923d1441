-- Tables of values as facts: a row of values for each variable, by its number.
use Rattle.std.specs.Prelude.{ℕ, false, List, [], ◌∷◌, Option, Some, None, slice_get, Vec}
use Rattle.std.specs.Global.{Global}
use Rattle.domains.specs.declared.Value.{Value}
use Rattle.domains.specs.declared.Value.TheVariants.{Truth}

-- a table: the values known of each variable, by number
abbrev pub Rows : Type 0
Rows = List (Vec Value Global)

-- the row that was looked up
abbrev pub row_values : Option (Vec Value Global) → List Value
row_values (Some row) = row.items
row_values None = []

-- the values known of the variable of this number
abbrev pub known_row_at : Rows → ℕ → List Value
known_row_at rows n = row_values (slice_get rows n)

-- the first value of a row; false in an empty one
abbrev pub first_of_row : List Value → Value
first_of_row [] = Truth false
first_of_row (v ∷ vs) = v
