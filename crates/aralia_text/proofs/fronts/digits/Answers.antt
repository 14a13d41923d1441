use Rattle.aralia_text.proofs.Numbers.{all_read, at_byte, one_more}
use Rattle.std.proofs.Common.{arith, refl}
use Rattle.aralia_text.proofs.fronts.digits.Goals as goal

pub returns-in-None : goal.returns-in-None
returns-in-None c = all_read _ _ _ _ c.loop-n.invariant
    (at_byte _ _ _ _ c.loop-n.invariant _ c.loop-n-test.true refl c.in-None.ensures.none)

pub loop-n-preserved : goal.loop-n-preserved
loop-n-preserved c = one_more _ _ _ _ c.loop-n.invariant _ _ c.loop-n-test.true (let f = c.ranges.gates.fits in omega (arith, f)) refl c.in-Some.ensures.found
