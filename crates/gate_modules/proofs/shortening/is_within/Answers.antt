use Rattle.gate_modules.proofs.Choosing.{none_more}
use Rattle.gate_modules.proofs.shortening.is_within.Goals as goal

pub loop-outer-preserved : goal.loop-outer-preserved
loop-outer-preserved c = none_more c.args.chosen.now c.loop-outer.outer-index _ c.loop-outer-test.true c.args.range
    c.loop-outer.invariant (c.covers.ensures.no c.if-covers.false)
