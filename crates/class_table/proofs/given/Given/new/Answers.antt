use Rattle.std.proofs.Common.{◌≡◌, ◌-◌, length, arith}
use Rattle.class_table.proofs.Taken.{item_stands}
use Rattle.class_table.proofs.OwnAt.{own_shown}
use Rattle.class_table.proofs.Retested.{rest_whole}
use Rattle.class_table.proofs.GivenNames.{first_none, first_next, first_all}
use Rattle.class_table.proofs.given.Given.new.Goals as goal

pub loop-body-init : goal.loop-body-init
loop-body-init c = λ d known l. first_none d _ (λ q h. let e = c.new.ensures.empty in let g = rw e at h in cc)

pub loop-body-preserved : goal.loop-body-preserved
loop-body-preserved c = λ d known l.
    let s = item_stands c.args.bodies.now c.loop-body.body-index c.body-item.result (omega arith) c.body-item.is in
    let n : c.saturating_sub-own.result ≡ length c.body-item.result.all.items - length c.body-item.result.own.items =
    (let x = c.body-item.result.all.ok.0 in let y = c.body-item.result.own.ok.0 in
    omega (arith, c.saturating_sub-own.ensures, c.len.ensures, c.len-in-loop-body.ensures, x, y)) in
    first_next d c.loop-body.body-index c.body-item.result.all.items c.body-item.result.own.items _ _ _
    (l.members _ _ s) (own_shown d _ l.as_text _ _ s) n (c.loop-body.invariant d known l)
    (rw rest_whole at (rw c.deref.ensures.value at (c.in_ok-add_sites.ensures d known)))

pub returns : goal.returns
returns c = λ d known l. first_all d c.args.bodies.now _ _ l.as_text (omega arith) (c.loop-body.invariant d known l)
