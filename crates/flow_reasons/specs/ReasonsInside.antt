-- Definitions beside those of Reasons, of which clauses inside the program speak: what the whole program promises does
-- not rest on them.
use Rattle.std.specs.Prelude.{ℕ, List}
use Rattle.ar_base.specs.Lists.{IsOneOf}
use Rattle.ar_base.specs.Sets.{Ascends}
use Rattle.typed_expr.specs.declared.expr.Expr.{Expr}
use Rattle.ar_meaning.specs.Systems.{Net}
use Rattle.flow_reasons.specs.Reasons.{Reason, InCone}

-- the variables of the cone, by number, each once
pub record IsReasonCone {V : Type 0} (net : Net V) (reasons : List Reason) (e : Expr V) (numbers : List ℕ) : Type 0 where
  pub ascends : Ascends numbers
  pub sound : (n : ℕ) → IsOneOf numbers n → InCone net reasons e n
  pub whole : (n : ℕ) → InCone net reasons e n → IsOneOf numbers n
