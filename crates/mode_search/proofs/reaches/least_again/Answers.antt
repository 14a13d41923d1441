use Rattle.std.proofs.Common.{ap, arith}
use Rattle.ar_base.proofs.Standing.{stands_one, stands_within, stands_item}
use Rattle.ar_base.proofs.Comparing.{first_place}
use Rattle.mode_search.specs.declared.searching.Reach.{Reach}
use Rattle.mode_search.specs.Reaches.{IsAgainAt}
use Rattle.mode_search.proofs.Usable.{place_more}
use Rattle.mode_search.proofs.reaches.least_again.Goals as goal

pub returns-then-reach : goal.returns-then-reach
returns-then-reach c =
    let st = stands_item c.args.reaches.now c.loop-n.n c.index-reaches-n.result c.loop-n-test.true
    c.index-reaches-n.is in
    first_place (IsAgainAt c.args.reaches.now) c.loop-n.n
    (record { reach = c.index-reaches-n.result; stands = st; again = c.if-reach.true }) c.loop-n.invariant

pub loop-n-preserved : goal.loop-n-preserved
loop-n-preserved c =
    let st = stands_item c.args.reaches.now c.loop-n.n c.index-reaches-n.result c.loop-n-test.true
    c.index-reaches-n.is in
    place_more (IsAgainAt c.args.reaches.now) c.loop-n.n c.loop-n.invariant
    (λ q. let e = ap (λ (z : Reach). z.again) (stands_one c.args.reaches.now c.loop-n.n q.reach c.index-reaches-n.result q.stands st) in let t = q.again in let u = c.if-reach.false in cc)

pub returns : goal.returns
returns c = λ n q. let w = stands_within c.args.reaches.now n q.reach q.stands in c.loop-n.invariant n (omega (arith, c.loop-n-test.false)) q
