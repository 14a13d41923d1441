use Rattle.std.proofs.Common.{[], refl}
use Rattle.mode_search.specs.Adding.{SomeHas}
use Rattle.mode_search.specs.Moves.{HasAt, GivesValue}
use Rattle.gts_core.proofs.Added.{those_of_empty}
use Rattle.mode_search.proofs.Added.{some_start, some_on, some_all}
use Rattle.mode_search.proofs.moves.given.Goals as goal

pub loop-assign-init : goal.loop-assign-init
loop-assign-init c = some_start (GivesValue (HasAt c.args.at.now.variable.n c.args.at.now.values.now)
    c.args.at.now.variable.n) c.args.action.now c.new-values.result.items c.new-values.ensures.items

pub loop-assign-preserved : goal.loop-assign-preserved
loop-assign-preserved c = some_on (GivesValue (HasAt c.args.at.now.variable.n c.args.at.now.values.now)
    c.args.at.now.variable.n) [] c.loop-assign.values.items c.add_given.new.values.items c.args.action.now
    c.loop-assign.assign-index c.assign-item.result c.loop-assign-test.true c.assign-item.is c.loop-assign.invariant
    c.in_ok-add_given.ensures

pub returns : goal.returns
returns c = those_of_empty (SomeHas
    (GivesValue (HasAt c.args.at.now.variable.n c.args.at.now.values.now) c.args.at.now.variable.n) c.args.action.now)
    [] c.loop-assign.values.items refl
    (some_all (GivesValue (HasAt c.args.at.now.variable.n c.args.at.now.values.now) c.args.at.now.variable.n) []
    c.loop-assign.values.items c.args.action.now c.loop-assign.assign-index c.loop-assign-test.false
    c.loop-assign.invariant)
