use Rattle.std.proofs.Common.{ℕ, ◌⊎◌, true, vec_len}
use Rattle.ar_base.specs.Lists.{Stands, IsOneOf}
use Rattle.class_table.proofs.order.next_awaited.Given as goal

abbrev pub invariant-loop-body : goal.invariant-loop-body
invariant-loop-body l = record {
  fewer : (b : ℕ) → IsOneOf l.row.items b → IsOneOf l.fn.row.items b;
  kept : (b : ℕ) → IsOneOf l.fn.row.items b → Stands l.placed b true ⊎ IsOneOf l.row.items b;
}

abbrev pub decreases-loop-body : goal.decreases-loop-body
decreases-loop-body l = vec_len l.row
