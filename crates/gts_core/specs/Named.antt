-- The variables that an assignment names.
use Rattle.std.specs.Prelude.{◌⊎◌}
use Rattle.ar_base.specs.Numbers.{VarId}
use Rattle.typed_expr.specs.Mentions.{Mentions}
use Rattle.typed_expr.specs.declared.expr.Expr.{out-Expr}
use Rattle.ar_meaning.specs.Dependence.{Tests}
use Rattle.gts_core.specs.declared.system.Assign.{Assign}

-- the variable stands in the assignment's value or in a condition
abbrev pub ReadsVariable : Assign → VarId → Type 0
ReadsVariable a x = Mentions x (out-Expr VarId a.value) ⊎ Tests x a.when.items
