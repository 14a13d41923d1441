-- Definitions beside those of Units, of which clauses inside the program speak: what the whole program promises does
-- not rest on them.
use Rattle.std.specs.Prelude.{ℕ, List, [], slice_get, unwrap_or}
use Rattle.class_table.specs.Members.{NamedMember, named_at}
use Rattle.hierarchy.specs.Models.{RootedModel}

-- Members of a unit

-- the names of the members of a body, inherited ones included
abbrev pub names_in : RootedModel → ℕ → List NamedMember
names_in m b = named_at m.declared (unwrap_or (slice_get m.members b) [])
