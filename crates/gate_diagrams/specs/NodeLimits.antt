-- When a limit of nodes may be reached.
use Rattle.std.specs.Prelude.{ℕ, List, Option, None}
use Rattle.ar_firing.specs.Forest.{ModeTree}
use Rattle.ar_firing.specs.Listed.{AreListed}
use Rattle.zdd_nodes.specs.Families.{Family}
use Rattle.zdd_nodes.specs.Sections.{IsMoreThan}
use Rattle.eq_core.specs.Gates.{Table}
use Rattle.eq_core.specs.Values.{value_at}
use Rattle.firable_families.specs.FirableInside.{IsFirableUpTo, IsTrueUpTo}
use Rattle.gate_diagrams.specs.Needed.{IsNeeded, IsNeededByBoth}

-- the set is firable in the trees, has at most as many events as are asked for, and the table's conflict operand is true at it
abbrev pub IsConflictUpTo : Option ℕ → List ModeTree → Table → List ℕ → Type 0
IsConflictUpTo order trees table set = IsTrueUpTo order trees (value_at table.gates table.conflict) set

-- the set is firable in the trees, and the table's conflict operand is true at it
abbrev pub IsConflictAt : List ModeTree → Table → List ℕ → Type 0
IsConflictAt trees table set = IsConflictUpTo None trees table set

-- a limit of nodes may be reached by the firable sets of at most as many events as are asked for: where the conflict operand
-- is true at such a set, more families than the limit are needed for it; where it is true at none, more are needed for it and
-- the top operand together
pub record NodesMayUpTo (order : Option ℕ) (trees : List ModeTree) (table : Table) (limit : ℕ) : Type 0 where
  pub all : Family
  pub is_all : AreListed (IsFirableUpTo order trees) all
  pub where_some : (set : List ℕ) → IsConflictUpTo order trees table set
      → IsMoreThan limit (IsNeeded all table.gates table.conflict)
  pub where_none : ((set : List ℕ) → IsConflictUpTo order trees table set → ⊥)
      → IsMoreThan limit (IsNeededByBoth all table)

-- the same of all firable sets
abbrev pub NodesMay : List ModeTree → Table → ℕ → Type 0
NodesMay trees table limit = NodesMayUpTo None trees table limit
