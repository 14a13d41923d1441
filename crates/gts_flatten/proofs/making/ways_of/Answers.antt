use Rattle.std.proofs.Common.{refl}
use Rattle.gts_flatten.proofs.Rows.{rows_start, rows_next}
use Rattle.gts_flatten.proofs.making.ways_of.Goals as goal

pub loop-planned-init : goal.loop-planned-init
loop-planned-init c = rows_start c.new-ways.result.items c.new-ways.ensures.items

pub loop-planned-preserved : goal.loop-planned-preserved
loop-planned-preserved c =
    rows_next c.args.plan.now c.loop-planned.planned-index c.planned-item.result _
    c.loop-planned.ways.items c.push.new.self.items c.loop-planned-test.true
    c.planned-item.is c.loop-planned.invariant (record { event = refl; number = refl; body = c.in_ok-body.ensures }) c.in_ok-push.ensures.items
