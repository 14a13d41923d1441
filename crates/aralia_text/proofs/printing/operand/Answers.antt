use Rattle.std.proofs.Common.{sym, ap}
use Rattle.ar_io.proofs.Writing.{writes_exit, writes_on, writes_front, writes_as}
use Rattle.eq_core.specs.Views.{operand_of}
use Rattle.eq_core.specs.declared.joints.Operand.{Operand}
use Rattle.aralia_text.specs.Texts.{operand_text}
use Rattle.aralia_text.proofs.printing.operand.Goals as goal

pub returns-in_err-write_text-in-Event : goal.returns-in_err-write_text-in-Event
returns-in_err-write_text-in-Event g c = writes_exit _ _ c.from_residual.ensures.1
    (writes_as _ _ (ap (λ (z : Operand). operand_text c.args.events.now (operand_of z)) (sym c.in-Event.is))
    (writes_front _ _ (writes_as _ _ c.minus.ensures c.in_err-write_text-in-Event.ensures)))

pub returns-in_err-write_text-in-Event-2 : goal.returns-in_err-write_text-in-Event-2
returns-in_err-write_text-in-Event-2 g c = writes_exit _ _ c.from_residual-in_err-write_text-in-Event-2.ensures.1
    (writes_as _ _ (ap (λ (z : Operand). operand_text c.args.events.now (operand_of z)) (sym c.in-Event.is))
    (writes_on (writes_as _ _ c.minus.ensures c.in_ok-write_text-in-Event.ensures) (writes_front _ _ c.in_err-write_text-in-Event-2.ensures)))

pub returns-in_ok-write_text-in-Event-2 : goal.returns-in_ok-write_text-in-Event-2
returns-in_ok-write_text-in-Event-2 g c = writes_as _ _ (ap (λ (z : Operand). operand_text c.args.events.now (operand_of z)) (sym c.in-Event.is))
    (writes_on (writes_as _ _ c.minus.ensures c.in_ok-write_text-in-Event.ensures)
    (writes_on c.in_ok-write_text-in-Event-2.ensures (writes_as _ _ c.text_at.ensures c.write_text-in-Event-3.ensures)))

pub returns-in_err-write_text-in-Gate : goal.returns-in_err-write_text-in-Gate
returns-in_err-write_text-in-Gate g c = writes_exit _ _ c.from_residual-in_err-write_text-in-Gate.ensures.1
    (writes_as _ _ (ap (λ (z : Operand). operand_text c.args.events.now (operand_of z)) (sym c.in-Gate.is))
    (writes_front _ _ (writes_as _ _ c.minus-in-Gate.ensures c.in_err-write_text-in-Gate.ensures)))

pub returns-in_ok-write_text-in-Gate : goal.returns-in_ok-write_text-in-Gate
returns-in_ok-write_text-in-Gate g c = writes_as _ _ (ap (λ (z : Operand). operand_text c.args.events.now (operand_of z)) (sym c.in-Gate.is))
    (writes_on (writes_as _ _ c.minus-in-Gate.ensures c.in_ok-write_text-in-Gate.ensures) c.name.ensures)
