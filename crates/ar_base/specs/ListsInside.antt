-- Definitions beside those of Lists, of which clauses inside the program speak: what the whole program promises does
-- not rest on them.
use Rattle.std.specs.Prelude.{◌≡◌, List, Contains}

-- the list has an item that is not this one
pub record HasOther {A : Type 0} (all : List A) (a : A) : Type 0 where
  pub other : A
  pub has : Contains all other
  pub differs : other ≡ a → ⊥
