-- A family is its sets.
use Rattle.std.specs.Prelude.{◌≡◌, ℕ, List}
use Rattle.zdd_nodes.specs.Families.{Family, has}
use Rattle.zdd_nodes.specs.FamiliesInside.{IsFamily}

-- two families with the same sets are the same list
abbrev pub OneListEach : Type 0
OneListEach = (f g : Family) → IsFamily f → IsFamily g → ((s : List ℕ) → has f s ≡ has g s) → f ≡ g
