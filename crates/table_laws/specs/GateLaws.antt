-- What the table of a static system tells.
use Rattle.std.specs.Prelude.{◌↔◌, ℕ, List, Option}
use Rattle.domains.specs.declared.Value.{Value}
use Rattle.typed_expr.specs.Kinds.{HasKind}
use Rattle.typed_expr.specs.declared.expr.ValueKind.{ValueKind}
use Rattle.typed_expr.specs.declared.expr.Expr.{Expr, out-Expr}
use Rattle.ar_meaning.specs.Systems.{Net, System}
use Rattle.ar_firing.specs.Static.{IsKeyedStatic}
use Rattle.ar_firing.specs.Cuts.{IsLeast, Cut, ConflictSet, IsConflictFreeUpTo}
use Rattle.ar_firing.specs.CutsInside.{UpTo}
use Rattle.ar_firing.specs.Forest.{ModeTree, IsForest}
use Rattle.ar_firing.specs.Operands.{Agrees, IsFirableWith}
use Rattle.gts_core.specs.Lawful.{IsLawful}
use Rattle.ar_firing.specs.Trees.{AreTrees}
use Rattle.eq_core.specs.Gates.{Table}
use Rattle.eq_core.specs.Ordered.{IsOrderedTable}
use Rattle.eq_core.specs.Values.{value_at}
use Rattle.eq_build.specs.Table.{IsTable}

-- the table of a lawful static system with these trees, for a well-typed observer, agrees with the system: at each
-- firable set its conflict operand is true exactly where the flows of the state are a fault, and where it is false its
-- top operand is true exactly where the observer has the wanted value
abbrev pub TableAgrees : Type 0
TableAgrees = (sys : System ℕ) (dropped : List ℕ) (kinds : ℕ → ValueKind) (kind : ValueKind) (trees : List ModeTree)
    (observer : Expr ℕ) (wanted : Value) (table : Table) → IsLawful sys.net kinds → IsKeyedStatic sys dropped
    → IsForest sys dropped trees → HasKind kinds (out-Expr ℕ observer) kind
    → IsTable sys.net trees observer wanted table
    → Agrees sys dropped observer wanted (value_at table.gates table.conflict) (value_at table.gates table.top)

-- the conflict sets are the least firable sets at which the table's conflict operand is true; and where no set of at most as
-- many events as are asked for meets a conflict, of these the cuts are the least firable sets at which its top operand is true
pub record ShowsLeast (sys : System ℕ) (dropped : List ℕ) (observer : Expr ℕ) (wanted : Value) (table : Table)
    : Type 0 where
  pub conflict_sets : (set : List ℕ) → (ConflictSet sys dropped set
      ↔ IsLeast (IsFirableWith sys dropped (value_at table.gates table.conflict)) set)
  pub cuts : (order : Option ℕ) → IsConflictFreeUpTo order sys dropped → (set : List ℕ) → UpTo order set
      → (Cut sys dropped observer wanted set
      ↔ IsLeast (IsFirableWith sys dropped (value_at table.gates table.top)) set)

-- so does the table of a lawful static system with these trees, for a well-typed observer
abbrev pub TableShowsLeast : Type 0
TableShowsLeast = (sys : System ℕ) (dropped : List ℕ) (kinds : ℕ → ValueKind) (kind : ValueKind)
    (trees : List ModeTree) (observer : Expr ℕ) (wanted : Value) (table : Table) → IsLawful sys.net kinds
    → IsKeyedStatic sys dropped → IsForest sys dropped trees → HasKind kinds (out-Expr ℕ observer) kind
    → IsTable sys.net trees observer wanted table → ShowsLeast sys dropped observer wanted table

-- the gates of a table by trees are in order, and a gate that its conflict or top operand names is one of them
abbrev pub TableIsOrdered : Type 0
TableIsOrdered = (net : Net ℕ) (trees : List ModeTree) (observer : Expr ℕ) (wanted : Value) (table : Table)
    → AreTrees trees → IsTable net trees observer wanted table → IsOrderedTable table
