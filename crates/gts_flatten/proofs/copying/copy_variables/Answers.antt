use Rattle.std.proofs.Common.{refl}
use Rattle.gts_flatten.proofs.Rows.{rows_start, rows_next}
use Rattle.gts_flatten.proofs.copying.copy_variables.Goals as goal

pub loop-variable-init : goal.loop-variable-init
loop-variable-init c = rows_start c.new-copies.result.items c.new-copies.ensures.items

pub loop-variable-preserved : goal.loop-variable-preserved
loop-variable-preserved c =
    rows_next c.args.variables.now c.loop-variable.variable-index c.variable-item.result _
    c.loop-variable.copies.items c.push.new.self.items c.loop-variable-test.true
    c.variable-item.is c.loop-variable.invariant (record {
      path = c.in_ok-path.ensures;
      unit = refl;
      domain = c.in_ok-domain.ensures;
      is_state = refl;
      value = refl;
    }) c.in_ok-push.ensures.items
