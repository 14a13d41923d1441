-- What an assignment yields from facts.
use Rattle.std.specs.Prelude.{ℕ, List, Option, Some, None}
use Rattle.domains.specs.declared.Value.{Value}
use Rattle.typed_expr.specs.Sets.{HasExactly}
use Rattle.typed_expr.specs.Yields.{Yields}
use Rattle.typed_expr.specs.declared.expr.Expr.{out-Expr}
use Rattle.ar_meaning.specs.Systems.{Assign}
use Rattle.ar_meaning.specs.Facts.{PassesConditions}

-- what an assignment that is reached yields, or that it is not reached
abbrev pub YieldsWhereReached : (ℕ → Value → Type 0) → Assign ℕ → Option (List Value) → Type 0
YieldsWhereReached facts a None = PassesConditions facts a.conditions → ⊥
YieldsWhereReached facts a (Some set) = PassesConditions facts a.conditions × HasExactly set (Yields facts (out-Expr ℕ a.value))
