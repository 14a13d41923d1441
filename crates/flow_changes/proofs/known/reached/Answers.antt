use Rattle.std.proofs.Common.{List, Contains, subst, sym, rules}
use Rattle.domains.specs.declared.Value.{Value}
use Rattle.domains.specs.declared.Value.TheVariants.{Truth}
use Rattle.flow_changes.specs.Cone.{Knows}
use Rattle.flow_changes.proofs.Knowing.{decides_start, decides_on, decides_not, decides_all, tells}
use Rattle.flow_changes.proofs.known.reached.Goals as goal

pub loop-test-init : goal.loop-test-init
loop-test-init c = decides_start _ _

pub loop-test-preserved : goal.loop-test-preserved
loop-test-preserved c =
    let k = c.args.known.now in
    let s = tells k.values.now k.known.now c.loop-test-item.result.0 c.in_ok-set.set c.in_ok-set.ensures.yields in
    let has : Contains c.values.result.now (Truth c.loop-test-item.result.1) = search rules in
    decides_on (Knows k.values.now k.known.now) c.args.conditions.now c.loop-test.test-index c.loop-test-item.result
    c.loop-test-test.true c.loop-test-item.is c.loop-test.invariant
    (s.sound _ (subst (λ (z : List Value). Contains z (Truth c.loop-test-item.result.1)) c.values.ensures.values
    has))

pub returns : goal.returns
returns c = decides_all _ _ _ c.loop-test-test.false c.loop-test.invariant

pub returns-then-not-contains : goal.returns-then-not-contains
returns-then-not-contains c =
    let k = c.args.known.now in
    let s = tells k.values.now k.known.now c.loop-test-item.result.0 c.in_ok-set.set c.in_ok-set.ensures.yields in
    let other : Contains c.values.result.now (Truth c.loop-test-item.result.1) → ⊥ = search rules in
    decides_not (Knows k.values.now k.known.now) c.args.conditions.now c.loop-test.test-index c.loop-test-item.result
    c.loop-test-test.true c.loop-test-item.is c.loop-test.invariant
    (λ y. other (subst (λ (z : List Value). Contains z (Truth c.loop-test-item.result.1))
    (sym c.values.ensures.values) (s.complete _ y)))
