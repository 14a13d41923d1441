-- The text of the gate table of a system.
use Rattle.std.specs.Prelude.{◌≡◌, ℕ, List}
use Rattle.ar_base.specs.Lists.{Stands}
use Rattle.domains.specs.declared.Value.{Value}
use Rattle.typed_expr.specs.declared.expr.Expr.{Expr}
use Rattle.ar_meaning.specs.Systems.{System}
use Rattle.ar_meaning.specs.FlatOf.{IsFlatOf}
use Rattle.ar_meaning.specs.TraceText.{Naming}
use Rattle.ar_firing.specs.Forest.{ModeTree, IsForest}
use Rattle.eq_core.specs.Gates.{Table}
use Rattle.eq_build.specs.Table.{IsTable}
use Rattle.aralia_text.specs.Texts.{equations_text}

-- the system's gate table, for the observer of this number and the wanted value: it speaks of variables by their places
-- among these things
pub record IsTableFor {V : Type 0} (things : List V) (sys : System V) (dropped : List ℕ) (observer : ℕ) (wanted : Value)
    (table : Table) : Type 0 where
  pub flat : System ℕ
  pub is_flat : IsFlatOf things sys flat
  pub trees : List ModeTree
  pub is_forest : IsForest sys dropped trees
  pub observed : Expr ℕ
  pub is_observed : Stands flat.observers observer observed
  pub is_table : IsTable flat.net trees observed wanted table

-- the text of the system's gate table, whose events are called by their paths
pub record IsTableText {V : Type 0} (things : List V) (names : Naming) (sys : System V) (dropped : List ℕ)
    (observer : ℕ) (wanted : Value) (text : List ℕ) : Type 0 where
  pub table : Table
  pub is_table : IsTableFor things sys dropped observer wanted table
  pub is_text : text ≡ equations_text names.events table
