use Rattle.std.proofs.Common.{arith}
use Rattle.class_table.specs.Shown.{Shows}
use Rattle.class_table.proofs.Taken.{item_stands}
use Rattle.class_table.proofs.OwnAt.{own_shown}
use Rattle.class_table.proofs.Retested.{tested_start, tested_next, tested_end}
use Rattle.class_table.proofs.naming.first_named_twice.Goals as goal

pub loop-body-init : goal.loop-body-init
loop-body-init c = λ d known l. tested_start d _ l

pub loop-body-preserved : goal.loop-body-preserved
loop-body-preserved c = λ d known l.
    let s = item_stands c.args.bodies.now c.loop-body.body-index c.body-item.result (omega arith) c.body-item.is in
    let shown : Shows d c.args.bodies.now c.args.types.now = record { as_text = l.as_text; known = known } in
    tested_next d _ l _ _ _ _ _ s (c.loop-body.invariant d known l)
    (c.in_ok-in_body.ensures d c.loop-body.body-index shown l (c.in_ok-given.ensures d shown l) (l.members _ _ s)
    (own_shown d _ l.as_text _ _ s)) c.earliest-found.ensures

pub returns : goal.returns
returns c = λ d known l. tested_end d _ l _ _ (omega arith) (c.loop-body.invariant d known l)
