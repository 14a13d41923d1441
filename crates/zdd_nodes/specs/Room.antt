-- What is stored in a sound store, and how many families fit its nodes.
use Rattle.std.specs.Prelude.{ℕ, ◌<◌, length}
use Rattle.zdd_nodes.specs.Families.{Family}
use Rattle.zdd_nodes.specs.Sections.{IsCounted, IsMoreThan}
use Rattle.zdd_nodes.specs.Nodes.{Stored, IsSoundStore, IsStored}

-- each counted section of a stored family is stored
abbrev pub SectionsAreStored : Type 0
SectionsAreStored = (s : Stored) (f h : Family) → IsSoundStore s → IsStored f s → IsCounted f h → IsStored h s

-- n + 1 different families do not fit n nodes
abbrev pub EachTakesANode : Type 0
EachTakesANode = (s : Stored) (n : ℕ) → IsMoreThan n (λ h. IsStored h s) → n < length s.families
