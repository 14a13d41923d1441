-- Definitions beside those of Builds, of which clauses inside the program speak: what the whole program promises does
-- not rest on them.
use Rattle.std.specs.Prelude.{ℕ, ◌<◌, List, length}
use Rattle.typed_expr.specs.Yields.{Level}
use Rattle.eq_core.specs.Gates.{Gate}
use Rattle.eq_build.specs.Entries.{Entry, Built}
use Rattle.eq_build.specs.Builds.{Builds}

-- the most gates that a table may have
abbrev pub most_gates : ℕ
most_gates = 2000000

-- from these gates the expression's entries need more gates than a table may have
abbrev pub NeedsMore : {V : Type 0} → (V → List Entry) → List Gate → Level V → Type 0
NeedsMore read g e = (b : Built) → Builds read g e b → most_gates < length b.gates
