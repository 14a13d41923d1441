-- Sets in firing order.
use Rattle.std.specs.Prelude.{◌≡◌, ℕ, suc, List, [], ◌∷◌, ◌++◌, map, reverse}
use Rattle.ar_base.specs.Lists.{Along}
use Rattle.ar_meaning.specs.Runs.{Label}
use Rattle.ar_firing.specs.Forest.{ModeTree}
use Rattle.zdd_nodes.specs.Families.{Family}
use Rattle.firable_families.specs.FirableInside.{IsFirableOf}

-- the labels of the paths of these trees, the first of which stands at place k: tree by tree, each path from its root
-- downward
abbrev pub line_from : ℕ → List ModeTree → (ℕ → List Label) → List Label
line_from k [] path = []
line_from k (tree ∷ trees) path = reverse (path k) ++ line_from (suc k) trees path

-- the events are those of a firable set, in firing order
pub record IsInFiringOrder (trees : List ModeTree) (set : List ℕ) (events : List ℕ) : Type 0 where
  pub is_firable : IsFirableOf trees set
  pub is : events ≡ map (λ l. l.event) (line_from 0 trees is_firable.path)

-- the lists are the sets of the family, one after the other, each in firing order
abbrev pub AreInFiringOrder : List ModeTree → Family → List (List ℕ) → Type 0
AreInFiringOrder trees = Along (IsInFiringOrder trees)
