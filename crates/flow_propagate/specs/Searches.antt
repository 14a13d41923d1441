-- What the searches for faults look for.
use Rattle.std.specs.Prelude.{◌≡◌, ℕ, ◌<◌, ◌≤◌, List, Option, Some, None}
use Rattle.ar_base.specs.Lists.{Stands}
use Rattle.domains.specs.Domains as domains
use Rattle.domains.specs.declared.Domain.{Domain}
use Rattle.domains.specs.declared.Value.{Value}
use Rattle.typed_expr.specs.Yields.{Yields}
use Rattle.typed_expr.specs.declared.expr.Expr.{out-Expr}
use Rattle.ar_meaning.specs.Facts.{PassesConditions}
use Rattle.gts_core.specs.View.{assign_of}
use Rattle.gts_core.specs.declared.system.Variable.{Variable}
use Rattle.gts_core.specs.declared.system.Assign.{Assign}
use Rattle.gts_core.specs.declared.system.GtsParts.{GtsParts}
use Rattle.typed_expr.specs.Rows.{Rows}
use Rattle.flow_propagate.specs.Table.{TableHolds}

-- an assignment that is reached and yields a value outside a domain
pub record LeavesADomain (rows : Rows) (domain : Domain) (a : Assign) : Type 0 where
  pub passes : PassesConditions (TableHolds rows) (assign_of a).conditions
  pub value : Value
  pub yields : Yields (TableHolds rows) (out-Expr ℕ (assign_of a).value) value
  pub outside : domains.Holds domain value → ⊥

-- the same for the domain of the assignment's target
pub record LeavesTargetDomain (p : GtsParts) (rows : Rows) (a : Assign) : Type 0 where
  pub variable : Variable
  pub stands : Stands p.variables.items a.target.n variable
  pub leaves : LeavesADomain rows variable.domain a

-- the least target among those of the first so many assignments that have P
abbrev pub IsLeastTarget : List Assign → ℕ → (Assign → Type 0) → Option ℕ → Type 0
IsLeastTarget all count P None = (k : ℕ) (a : Assign) → k < count → Stands all k a → P a → ⊥
IsLeastTarget all count P (Some n) =
    ((k : ℕ) × (a : Assign) × Stands all k a × P a × (a.target.n ≡ n))
    × ((k : ℕ) (a : Assign) → k < count → Stands all k a → P a → n ≤ a.target.n)
