use Rattle.std.proofs.Common.{List, Bool, map, subst}
use Rattle.typed_expr.specs.declared.expr.Expr.{Expr}
use Rattle.ar_meaning.specs.Facts.{PassesConditions}
use Rattle.ar_base.specs.Numbers.{VarId}
use Rattle.gts_core.specs.View.{condition_of}
use Rattle.flow_propagate.specs.Table.{TableHolds}
use Rattle.flow_propagate.proofs.Reaching.{tells}
use Rattle.ar_meaning.proofs.Found.{holds}
use Rattle.flow_propagate.proofs.table.yielded.Goals as goal

pub returns : goal.returns
returns c = (
  subst (λ (cs : List (Expr VarId × Bool)). PassesConditions (TableHolds c.args.table.now.rows.items) (map condition_of cs))
      c.deref.ensures.value (holds _ _ c.if-not-reaches.false c.in_ok-reaches.ensures),
  tells c.args.table.now.rows.items c.args.assign.now.value c.in_ok-set.set c.in_ok-set.ensures.yields,
)
