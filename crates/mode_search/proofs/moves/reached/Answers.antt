use Rattle.std.proofs.Common.{List, Contains, subst, sym}
use Rattle.domains.specs.declared.Value.{Value}
use Rattle.domains.specs.declared.Value.TheVariants.{Truth}
use Rattle.mode_search.proofs.FactsAt.{decides_start, decides_on, decides_not, decides_all, tells}
use Rattle.mode_search.proofs.moves.reached.Goals as goal

pub loop-test-init : goal.loop-test-init
loop-test-init c = decides_start _ _ _

pub loop-test-preserved : goal.loop-test-preserved
loop-test-preserved c =
    let s = tells c.args.at.now.variable.n c.args.at.now.values.now c.loop-test-item.result.0 c.in_ok-set.set
    c.in_ok-set.ensures.yields in
    decides_on c.args.at.now.variable.n c.args.at.now.values.now c.args.conditions.now c.loop-test.test-index
    c.loop-test-item.result c.loop-test-test.true c.loop-test-item.is c.loop-test.invariant
    (s.sound _ (subst (λ (z : List Value). Contains z (Truth c.loop-test-item.result.1)) c.values.ensures.values
    c.if-not-has.ensures))

pub returns : goal.returns
returns c = decides_all _ _ _ _ c.loop-test-test.false c.loop-test.invariant

pub returns-then-not-has : goal.returns-then-not-has
returns-then-not-has c =
    let s = tells c.args.at.now.variable.n c.args.at.now.values.now c.loop-test-item.result.0 c.in_ok-set.set
    c.in_ok-set.ensures.yields in
    decides_not c.args.at.now.variable.n c.args.at.now.values.now c.args.conditions.now c.loop-test.test-index
    c.loop-test-item.result c.loop-test-test.true c.loop-test-item.is c.loop-test.invariant
    (λ y. c.if-not-has.ensures (subst (λ (z : List Value). Contains z (Truth c.loop-test-item.result.1))
    (sym c.values.ensures.values) (s.complete _ y)))
