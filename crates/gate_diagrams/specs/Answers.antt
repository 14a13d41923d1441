-- What the drawing of a table's two operands answers.
use Rattle.std.specs.Prelude.{ℕ, List, Option, None}
use Rattle.std.specs.List.{All}
use Rattle.ar_firing.specs.Forest.{ModeTree}
use Rattle.zdd_nodes.specs.Families.{Family}
use Rattle.zdd_nodes.specs.Nodes.{Stored, family, IsFamilyNumber}
use Rattle.eq_core.specs.Gates.{Table}
use Rattle.eq_core.specs.Values.{value_at}
use Rattle.firable_families.specs.FirableInside.{ListsLeastUpTo}
use Rattle.gate_diagrams.specs.Needed.{IsNeeded, IsNeededByBoth}
use Rattle.gate_diagrams.specs.NodeLimits.{IsConflictUpTo}
use Rattle.gate_diagrams.specs.declared.answer.Drawn.{Drawn}
use Rattle.gate_diagrams.specs.declared.answer.Drawn.TheVariants.{Conflicts, Cuts}

-- of the firable sets of at most as many events as are asked for, the least at which the conflict operand is true, and there
-- are some; else the least at which the top operand is
abbrev pub IsAnswerUpTo : Option ℕ → List ModeTree → Table → Drawn → Type 0
IsAnswerUpTo order trees table (Conflicts f) =
    ((set : List ℕ) × IsConflictUpTo order trees table set) × IsFamilyNumber f.store f.root.n
    × ListsLeastUpTo order trees (value_at table.gates table.conflict) (family f.store f.root.n)
IsAnswerUpTo order trees table (Cuts f) =
    ((set : List ℕ) → IsConflictUpTo order trees table set → ⊥) × IsFamilyNumber f.store f.root.n
    × ListsLeastUpTo order trees (value_at table.gates table.top) (family f.store f.root.n)

-- the same of all firable sets
abbrev pub IsDrawnAnswer : List ModeTree → Table → Drawn → Type 0
IsDrawnAnswer trees table drawn = IsAnswerUpTo None trees table drawn

-- the store of the answer
abbrev pub store_of : Drawn → Stored
store_of (Conflicts f) = f.store
store_of (Cuts f) = f.store

-- every stored family is needed, where `all` are the firable sets: for the conflict operand, or, where that is true at
-- no firable set, for it or the top operand
abbrev pub AreNeeded : Family → Table → Drawn → Type 0
AreNeeded all table (Conflicts f) = All (IsNeeded all table.gates table.conflict) f.store.families
AreNeeded all table (Cuts f) = All (IsNeededByBoth all table) f.store.families
