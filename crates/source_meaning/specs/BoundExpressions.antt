-- What stands for paths in bound expressions, and what it is that a bound expression is what a written one means.
use Rattle.std.specs.Prelude.{ℕ, List}
use Rattle.ar_base.specs.Numbers.{VarId}
use Rattle.ar_meaning.specs.FlatOf.{IsNumber}
use Rattle.ar_syntax.specs.declared.expressions.RawExpr.{RawExpr}
use Rattle.ar_syntax.specs.declared.paths.Path.{Path}
use Rattle.domains.specs.declared.Value.{Value}
use Rattle.domains.specs.declared.Value.TheVariants.{Symbol}
use Rattle.typed_expr.specs.Renames.{Renames}
use Rattle.typed_expr.specs.declared.expr.Expr.{Expr, out-Expr}
use Rattle.written_forms.specs.Operands.{level_of}
use Rattle.written_forms.specs.declared.naming.Leaf.{Leaf}
use Rattle.written_forms.specs.declared.naming.Leaf.TheVariants.{Variable, Constant}
use Rattle.hierarchy.specs.Models.{RootedModel}
use Rattle.hierarchy.specs.Units.{UnitPath, Thing}
use Rattle.hierarchy.specs.Walks.{Finds, is_variable}
use Rattle.hierarchy.specs.Listing.{variables}
use Rattle.source_meaning.specs.Means.{Means, ValueOf, IsSymbol, is_valued}

-- the number stands for the variable
abbrev pub IsNumberOfVariable : RootedModel → List UnitPath → Thing → VarId → Type 0
IsNumberOfVariable m units t x = IsNumber (variables m units) t x.n

-- this is what the path, read in the unit u, stands for: a variable by its number, or the value of a parameter or a
-- symbol
pub data IsLeafFor (m : RootedModel) (units : List UnitPath) (u : UnitPath) (p : Path) : Leaf → Type 0 where
  variable : {x : VarId} (t : Thing) → Finds m is_variable u p t → IsNumberOfVariable m units t x
      → IsLeafFor m units u p (Variable x)
  parameter : {v : Value} (t : Thing) → Finds m is_valued u p t → ValueOf m t v → IsLeafFor m units u p (Constant v)
  symbol : (k : ℕ) → IsSymbol m u p k → IsLeafFor m units u p (Constant (Symbol k))

-- the bound expression is what the written one means in the unit u, with numbers for variables
pub record IsBoundExpression (m : RootedModel) (units : List UnitPath) (u : UnitPath) (e : RawExpr)
    (f : Expr VarId) : Type 0 where
  pub meaning : Expr Thing
  pub means : Means m u (level_of e) (out-Expr Thing meaning)
  pub numbers : Renames (IsNumberOfVariable m units) (out-Expr Thing meaning) (out-Expr VarId f)
