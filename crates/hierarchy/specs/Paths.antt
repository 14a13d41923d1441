-- The canonical paths of units and things.
use Rattle.std.specs.Prelude.{ℕ, List, [], ◌∷◌, ◌++◌, codes}
use Rattle.ar_base.specs.Texts.{text_at}
use Rattle.hierarchy.specs.Models.{RootedModel}
use Rattle.hierarchy.specs.Units.{UnitPath, Thing}

-- the text of a name
abbrev pub name_text : RootedModel → ℕ → List ℕ
name_text m n = text_at m.names n

-- what stands before a name in a unit: the unit's path and a dot, or nothing in the main block
abbrev pub prefix : RootedModel → UnitPath → List ℕ
prefix m [] = []
prefix m (l ∷ above) = prefix m above ++ (name_text m l.name ++ codes ".")

-- the canonical path of a thing: the names from the main block down, with dots between them
abbrev pub thing_path : RootedModel → Thing → List ℕ
thing_path m t = prefix m t.unit ++ name_text m t.name

-- the canonical path of a unit; that of the main block is `main`
abbrev pub unit_path : RootedModel → UnitPath → List ℕ
unit_path m [] = codes "main"
unit_path m (l ∷ above) = prefix m above ++ name_text m l.name
