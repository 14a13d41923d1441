use Rattle.std.proofs.Common.{arith}
use Rattle.class_table.proofs.Taken.{item_stands}
use Rattle.unit_rules.specs.Counting.{AreOfBody}
use Rattle.unit_rules.proofs.Pushing.{push_start, push_next, push_end}
use Rattle.unit_rules.proofs.totals.of_bodies.Goals as goal

pub loop-body-init : goal.loop-body-init
loop-body-init c = λ d a known. push_start (AreOfBody d) _ c.new-counts.ensures.items

pub loop-body-preserved : goal.loop-body-preserved
loop-body-preserved c = λ d a known.
    let s = item_stands c.args.bodies.now c.loop-body.body-index c.body-item.result (omega arith) c.body-item.is in
    push_next (AreOfBody d) _ _ _ _ _ _ s (c.loop-body.invariant d a known)
    (rw c.deref.ensures.value at (c.at_sites.ensures d c.args.bodies.now a known)) c.in_ok-push.ensures.items

pub returns : goal.returns
returns c = λ d a known. push_end (AreOfBody d) _ _ _ (omega arith) (c.loop-body.invariant d a known)
