-- What the promise of the table speaks of.
use Rattle.std.specs.Prelude.{◌<◌, ℕ, length, Option, Some, None}
use Rattle.domains.specs.declared.Value.{Value}
use Rattle.typed_expr.specs.declared.expr.Expr.{Expr}
use Rattle.eq_core.specs.Gates.{Table}
use Rattle.eq_build.specs.BuildsInside.{most_gates}
use Rattle.gts_core.specs.View.{net_of, numbered}
use Rattle.gts_core.specs.declared.system.Observer.{Observer}
use Rattle.gts_core.specs.declared.system.GtsParts.{GtsParts}
use Rattle.mode_trees.specs.Views.{trees_of, number_in}
use Rattle.mode_trees.specs.declared.forests.Forest.{Forest}
use Rattle.eq_build.specs.Table.{IsTable}

-- P holds of the expression of the observer of this number, if there is one
abbrev pub AtObserver : Option Observer → (Expr ℕ → Type 0) → Type 0
AtObserver None P = Unit {0}
AtObserver (Some o) P = P (numbered o.value)

-- the table of the system for an observer of it and a wanted value, by the trees of a forest
abbrev pub IsTableOfParts : GtsParts → Forest → Value → Table → Expr ℕ → Type 0
IsTableOfParts p forest wanted table observer =
    IsTable (net_of p) (trees_of (number_in p) forest) observer wanted table

-- each such table has more gates than a table may have
abbrev pub NeedsTooMany : GtsParts → Forest → Value → Expr ℕ → Type 0
NeedsTooMany p forest wanted observer = (table : Table) → IsTableOfParts p forest wanted table observer
    → most_gates < length table.gates
