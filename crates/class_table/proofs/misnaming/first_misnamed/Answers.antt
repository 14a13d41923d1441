use Rattle.std.proofs.Common.{arith}
use Rattle.class_table.proofs.Taken.{item_stands}
use Rattle.class_table.proofs.Looping.{loop_start, loop_next, loop_end}
use Rattle.class_table.proofs.WrongTypes.{misnamed_to, misnamed_back}
use Rattle.class_table.proofs.misnaming.first_misnamed.Goals as goal

pub loop-body-init : goal.loop-body-init
loop-body-init c = λ d known. loop_start _ _

pub loop-body-preserved : goal.loop-body-preserved
loop-body-preserved c = λ d known. let s = item_stands c.args.bodies.now c.loop-body.body-index c.body-item.result (omega arith) c.body-item.is in
    loop_next _ _ _ _ _ _ _ s (c.loop-body.invariant d known)
    (rw c.deref.ensures.value at (c.misnamed_in.ensures d known.known)) c.earliest-found.ensures

pub returns : goal.returns
returns c = λ d known. loop_end _ _ _ _ _ (omega arith) (misnamed_to d _ known.as_text)
    (misnamed_back d _ known.as_text) (c.loop-body.invariant d known)
