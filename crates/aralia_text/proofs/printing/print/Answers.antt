use Rattle.std.proofs.Common.{List, ap, map}
use Rattle.eq_core.specs.declared.joints.Gate.{Gate}
use Rattle.eq_core.specs.Views.{gate_of}
use Rattle.aralia_text.specs.Texts.{gate_lines}
use Rattle.ar_io.proofs.Writing.{writes_exit, writes_on, writes_front, writes_as}
use Rattle.aralia_text.proofs.printing.print.Goals as goal

pub returns-in_err-lines : goal.returns-in_err-lines
returns-in_err-lines g c = writes_exit _ _ c.from_residual.ensures.1
    (writes_front _ _ (writes_as _ _ (ap (λ (z : List Gate). gate_lines c.args.events.now 0 (map gate_of z))
    c.deref.ensures.value) c.in_err-lines.ensures))

pub returns-in_err-write_text : goal.returns-in_err-write_text
returns-in_err-write_text g c = writes_exit _ _ c.from_residual-in_err-write_text.ensures.1
    (writes_on (writes_as _ _
    (ap (λ (z : List Gate). gate_lines c.args.events.now 0 (map gate_of z)) c.deref.ensures.value)
    c.in_ok-lines.ensures)
    (writes_front _ _ c.in_err-write_text.ensures))

pub returns-in_err-operand : goal.returns-in_err-operand
returns-in_err-operand g c = writes_exit _ _ c.from_residual-in_err-operand.ensures.1
    (writes_on (writes_as _ _
    (ap (λ (z : List Gate). gate_lines c.args.events.now 0 (map gate_of z)) c.deref.ensures.value)
    c.in_ok-lines.ensures)
    (writes_on c.in_ok-write_text.ensures (writes_front _ _ c.in_err-operand.ensures)))

pub returns-in_err-write_text-2 : goal.returns-in_err-write_text-2
returns-in_err-write_text-2 g c = writes_exit _ _ c.from_residual-in_err-write_text-2.ensures.1
    (writes_on (writes_as _ _
    (ap (λ (z : List Gate). gate_lines c.args.events.now 0 (map gate_of z)) c.deref.ensures.value)
    c.in_ok-lines.ensures)
    (writes_on c.in_ok-write_text.ensures (writes_on c.in_ok-operand.ensures (writes_front _ _ c.in_err-write_text-2.ensures))))

pub returns-in_err-operand-2 : goal.returns-in_err-operand-2
returns-in_err-operand-2 g c = writes_exit _ _ c.from_residual-in_err-operand-2.ensures.1
    (writes_on (writes_as _ _
    (ap (λ (z : List Gate). gate_lines c.args.events.now 0 (map gate_of z)) c.deref.ensures.value)
    c.in_ok-lines.ensures)
    (writes_on c.in_ok-write_text.ensures (writes_on c.in_ok-operand.ensures (writes_on c.in_ok-write_text-2.ensures (writes_front _ _ c.in_err-operand-2.ensures)))))

pub returns : goal.returns
returns g c = writes_on (writes_as _ _
    (ap (λ (z : List Gate). gate_lines c.args.events.now 0 (map gate_of z)) c.deref.ensures.value)
    c.in_ok-lines.ensures)
    (writes_on c.in_ok-write_text.ensures (writes_on c.in_ok-operand.ensures (writes_on c.in_ok-write_text-2.ensures (writes_on c.in_ok-operand-2.ensures c.write_text-3.ensures))))
