use Rattle.mode_search.specs.declared.kept.KeptWay.{KeptWay}
use Rattle.mode_search.proofs.LeastVariables.{least_start, least_more, least_all}
use Rattle.mode_search.proofs.kept.least_action.Goals as goal

pub loop-way-init : goal.loop-way-init
loop-way-init c = least_start (λ (k : KeptWay). k.mode.action_alone) c.args.kept.now

pub loop-way-preserved : goal.loop-way-preserved
loop-way-preserved c = least_more (λ (k : KeptWay). k.mode.action_alone) c.args.kept.now c.loop-way.way-index _
    c.loop-way.least c.least_with-least.result c.loop-way-test.true c.loop-way.invariant c.least_with-least.ensures

pub returns : goal.returns
returns c = least_all (λ (k : KeptWay). k.mode.action_alone) c.args.kept.now c.loop-way.way-index c.loop-way.least
    c.loop-way-test.false c.loop-way.invariant
