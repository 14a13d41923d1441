-- Definitions beside those of Entries, of which clauses inside the program speak: what the whole program promises does
-- not rest on them.
use Rattle.std.specs.Prelude.{◌≡◌, true, List, [], ◌∷◌}
use Rattle.ar_base.specs.Lists.{IsOneOf}
use Rattle.domains.specs.Values.{is_before}
use Rattle.eq_build.specs.Entries.{Group}

-- each group's value comes before those of all later groups
abbrev pub Rises : List Group → Type 0
Rises [] = Unit {0}
Rises (p ∷ ps) = ((q : Group) → IsOneOf ps q → is_before p.value q.value ≡ true) × Rises ps
