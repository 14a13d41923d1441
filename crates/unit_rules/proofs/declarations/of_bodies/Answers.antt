use Rattle.std.proofs.Common.{arith}
use Rattle.class_table.proofs.Taken.{item_stands}
use Rattle.unit_rules.proofs.Pushing.{push_start, push_next, push_end}
use Rattle.unit_rules.specs.Searched.{IsFirstIn}
use Rattle.unit_rules.proofs.declarations.of_bodies.Goals as goal

pub loop-body-init : goal.loop-body-init
loop-body-init c = λ d holds known. push_start (IsFirstIn d) _ c.new-firsts.ensures.items

pub loop-body-preserved : goal.loop-body-preserved
loop-body-preserved c = λ d holds known.
    let l = rw c.deref-body-items.ensures.value at c.loop-body-test.true in
    let is = rw c.deref-body-items.ensures.value at c.body-item.is in
    let s = item_stands c.args.classes.now.bodies.items c.loop-body.body-index c.body-item.result l is in
    push_next (IsFirstIn d) _ _ _ _ _ _ s (c.loop-body.invariant d holds known)
    (rw c.deref.ensures.value at (c.wrong_in.ensures d holds known)) c.in_ok-push.ensures.items

pub returns : goal.returns
returns c = λ d holds known. push_end (IsFirstIn d) _ _ _ (omega arith) (c.loop-body.invariant d holds known)
