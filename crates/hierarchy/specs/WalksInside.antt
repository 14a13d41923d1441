-- Definitions beside those of Walks, of which clauses inside the program speak: what the whole program promises does
-- not rest on them.
use Rattle.std.specs.Prelude.{ℕ, []}
use Rattle.hierarchy.specs.Models.{RootedModel}
use Rattle.hierarchy.specs.Units.{UnitPath, kind_at}
use Rattle.hierarchy.specs.Walks.{WalkOutcome, NameLeads}

-- the name x in the unit u leads to this
abbrev pub LeadsFrom : RootedModel → UnitPath → ℕ → WalkOutcome → Type 0
LeadsFrom m u x o = NameLeads m [] u x (kind_at m u x) o
