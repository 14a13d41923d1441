-- The laws of the gate table.
use Rattle.std.specs.Prelude.{◌≡◌, ℕ, List}
use Rattle.domains.specs.declared.Value.{Value}
use Rattle.typed_expr.specs.Kinds.{HasKind}
use Rattle.typed_expr.specs.declared.expr.Expr.{Expr, out-Expr}
use Rattle.typed_expr.specs.declared.expr.ValueKind.{ValueKind}
use Rattle.ar_meaning.specs.Systems.{Net}
use Rattle.ar_firing.specs.Forest.{ModeTree}
use Rattle.eq_core.specs.Gates.{Table}
use Rattle.gts_core.specs.Lawful.{IsLawful}
use Rattle.eq_build.specs.Table.{IsTable}

-- there is a table for them
pub record HasTable (net : Net ℕ) (trees : List ModeTree) (observer : Expr ℕ) (wanted : Value) : Type 0 where
  pub table : Table
  pub is : IsTable net trees observer wanted table

-- a lawful system has a table for each list of trees, each typed observer and each wanted value
abbrev pub SomeTable : Type 0
SomeTable = (net : Net ℕ) (kinds : ℕ → ValueKind) (kind : ValueKind) (trees : List ModeTree) (observer : Expr ℕ)
    (wanted : Value) → IsLawful net kinds → HasKind kinds (out-Expr ℕ observer) kind
    → HasTable net trees observer wanted

-- and no other one
abbrev pub OneTable : Type 0
OneTable = (net : Net ℕ) (trees : List ModeTree) (observer : Expr ℕ) (wanted : Value) (one other : Table)
    → IsTable net trees observer wanted one → IsTable net trees observer wanted other → one ≡ other
