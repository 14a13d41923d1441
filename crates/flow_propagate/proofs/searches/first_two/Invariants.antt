use Rattle.std.proofs.Common.{◌<◌, ℕ}
use Rattle.ar_base.specs.Lists.{Stands}
use Rattle.gts_core.specs.declared.system.Variable.{Variable}
use Rattle.typed_expr.specs.Rows.{known_row_at}
use Rattle.flow_propagate.specs.Rows.{IsTwo}
use Rattle.flow_propagate.proofs.searches.first_two.Given as goal

abbrev pub invariant-loop-place : goal.invariant-loop-place
invariant-loop-place l = (k : ℕ) (x : Variable) → k < l.place → Stands l.parts.variables.items k x
    → IsTwo x.is_state (known_row_at l.table.rows.items k) → ⊥
