-- Definitions beside those of Yields, of which clauses inside the program speak: what the whole program promises does
-- not rest on them.
use Rattle.std.specs.Prelude.{List, Contains}
use Rattle.domains.specs.declared.Value.{Value}

-- the facts are these values of each variable
abbrev pub facts_of : {V : Type 0} → (V → List Value) → V → Value → Type 0
facts_of values x v = Contains (values x) v
