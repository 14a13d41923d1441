use Rattle.std.proofs.Common.{List, Bool, map, subst}
use Rattle.typed_expr.specs.declared.expr.Expr.{Expr}
use Rattle.ar_meaning.specs.Facts.{PassesConditions}
use Rattle.ar_base.specs.Numbers.{VarId}
use Rattle.gts_core.specs.View.{condition_of}
use Rattle.ar_meaning.proofs.Found.{holds}
use Rattle.flow_changes.specs.Cone.{Knows}
use Rattle.flow_changes.proofs.Knowing.{tells}
use Rattle.flow_changes.proofs.known.yielded.Goals as goal

pub returns : goal.returns
returns c =
    let k = c.args.known.now in (
      subst (λ (cs : List (Expr VarId × Bool)). PassesConditions (Knows k.values.now k.known.now) (map condition_of cs))
          c.deref.ensures.value (holds _ _ c.if-not-reaches.false c.in_ok-reaches.ensures),
      tells k.values.now k.known.now c.args.assign.now.value c.in_ok-set.set c.in_ok-set.ensures.yields,
    )
