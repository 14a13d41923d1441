-- Definitions beside those of Sections, of which clauses inside the program speak: what the whole program promises does
-- not rest on them.
use Rattle.std.specs.Prelude.{◌≡◌, ◌≢◌, [], ◌∷◌}
use Rattle.zdd_nodes.specs.Families.{Family}

-- h is the made family, and neither empty nor the family of the empty set alone
abbrev pub IsMade : Family → Family → Type 0
IsMade made h = (h ≡ made) × (h ≢ []) × (h ≢ [] ∷ [])
