-- A tree's modes, each with the events of the path that leads to it.
use Rattle.std.specs.Prelude.{◌≡◌, ℕ, true, List}
use Rattle.ar_base.specs.Lists.{Stands, IsOneOf}
use Rattle.ar_base.specs.Sets.{Within}
use Rattle.domains.specs.declared.Value.{Value}
use Rattle.ar_meaning.specs.Runs.{Label}
use Rattle.ar_firing.specs.Forest.{Row, ModeTree}
use Rattle.zdd_nodes.specs.Families.{Family, has}
use Rattle.firable_families.specs.FirableInside.{LeadsToMode, HaveEvents}

-- a mode of the tree with the events of a path that leads to it
pub record IsEntry (tree : ModeTree) (mode : Value) (set : List ℕ) : Type 0 where
  pub labels : List Label
  pub leads : LeadsToMode tree labels mode
  pub events : HaveEvents labels set

-- the modes and sets are those of the tree's first mode and of each mode that an edge enters
pub record AreTreeEntries (tree : ModeTree) (entries : List (Value × List ℕ)) : Type 0 where
  pub sound : (k : ℕ) (m : Value) (set : List ℕ) → Stands entries k (m, set) → IsEntry tree m set
  pub first : (set : List ℕ) × IsOneOf entries (tree.first, set)
  pub entered : (r : Row) → IsOneOf tree.edges r → (set : List ℕ) × IsOneOf entries (r.to, set)

-- the family has the sets of the entries, and no other
pub record HasEntries (entries : List (Value × List ℕ)) (f : Family) : Type 0 where
  pub sound : (s : List ℕ) → has f s ≡ true
      → (m : Value) × (set : List ℕ) × IsOneOf entries (m, set) × Within s set × Within set s
  pub whole : (m : Value) (set : List ℕ) → IsOneOf entries (m, set)
      → (s : List ℕ) × (has f s ≡ true) × Within set s × Within s set
