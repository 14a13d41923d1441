-- Two small families.
use Rattle.std.specs.Prelude.{[], ◌∷◌}
use Rattle.zdd_nodes.specs.Families.{Family}

-- the sets {0, 1}, {0} and {1, 2}, in order
abbrev pub three : Family
three = (0 ∷ 1 ∷ []) ∷ (0 ∷ []) ∷ (1 ∷ 2 ∷ []) ∷ []

-- the set {0}
abbrev pub one : Family
one = (0 ∷ []) ∷ []
