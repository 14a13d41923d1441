use Rattle.std.proofs.Common.{ap, arith, length}
use Rattle.class_table.proofs.Taken.{item_stands, length_next}
use Rattle.class_table.proofs.Rowed.{rows_start, rows_next, rows_end}
use Rattle.class_table.proofs.inside.all_inside.Goals as goal

pub loop-body-init : goal.loop-body-init
loop-body-init c = record {
  long = ap length c.new-rows.ensures.items;
  each = λ d shown. rows_start d _ _ c.new-rows.ensures.items;
}

pub loop-body-preserved : goal.loop-body-preserved
loop-body-preserved c =
    let s = item_stands c.args.bodies.now c.loop-body.body-index c.body-item.result (omega arith) c.body-item.is in
    record {
      long = (let e = length_next _ _ _ c.in_ok-push.ensures.items in omega (arith, e, c.loop-body.invariant.long));
      each = λ d shown. rows_next d _ _ _ _ _ _ c.loop-body.invariant.long s (c.loop-body.invariant.each d shown)
          (rw c.deref.ensures.value at (c.in_ok-row.ensures d shown.known)) c.in_ok-push.ensures.items;
    }

pub returns-clause-inner : goal.returns-clause-inner
returns-clause-inner c = λ d shown. rows_end d _ _ shown.as_text (omega (arith, c.loop-body.invariant.long))
    (c.loop-body.invariant.each d shown)

pub returns-clause-long : goal.returns-clause-long
returns-clause-long c = omega (arith, c.loop-body.invariant.long)
