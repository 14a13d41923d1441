-- Rule L14 by its number, and the counts that the limits on ways are of.
use Rattle.std.specs.Prelude.{ℕ, ◌+◌, max, List, [], ◌∷◌, map, length}
use Rattle.ar_meaning.specs.Systems.{Tree, Leaf, Joint, Branches, Empty, Branch}

-- the rule that is tested when synchronisations are expanded
abbrev pub way_rules : List ℕ
way_rules = 14 ∷ []

-- the greatest of these numbers, 0 where there is none
abbrev pub greatest : List ℕ → ℕ
greatest [] = 0
greatest (n ∷ ns) = max n (greatest ns)

-- the ways of the event that has the most
abbrev pub most_ways : {L : Type 0} → List (List (Tree L)) → ℕ
most_ways ways = greatest (map length ways)

-- how many parts there are
abbrev pub branch_count : {L : Type 0} → Branches L → ℕ
branch_count Empty = 0
branch_count (Branch must t bs) = 1 + branch_count bs

-- the parts of a way; those of its parts are not counted again
abbrev pub part_count : {L : Type 0} → Tree L → ℕ
part_count (Leaf l) = 0
part_count (Joint bs) = branch_count bs

-- the parts of these ways
abbrev pub parts_in : {L : Type 0} → List (Tree L) → ℕ
parts_in [] = 0
parts_in (t ∷ ts) = part_count t + parts_in ts

-- the parts of all synchronised ways
abbrev pub way_parts : {L : Type 0} → List (List (Tree L)) → ℕ
way_parts [] = 0
way_parts (ts ∷ ways) = parts_in ts + way_parts ways
