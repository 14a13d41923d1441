-- Definitions beside those of Paths, of which clauses inside the program speak: what the whole program promises does
-- not rest on them.
use Rattle.std.specs.Prelude.{ℕ, List, [], ◌∷◌, ◌++◌, codes}
use Rattle.hierarchy.specs.Models.{RootedModel}
use Rattle.hierarchy.specs.Paths.{name_text}

-- a path's text: the texts of these names with dots between them
abbrev pub dotted : RootedModel → List ℕ → List ℕ
dotted m [] = []
dotted m (x ∷ []) = name_text m x
dotted m (x ∷ y ∷ more) = name_text m x ++ (codes "." ++ dotted m (y ∷ more))
