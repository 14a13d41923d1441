use Rattle.std.proofs.Common.{◌≡◌, ◌∷◌, List, ap, map, sym, ◌∙◌}
use Rattle.ar_io.proofs.Writing.{writes_exit, writes_on, writes_front, writes_as}
use Rattle.eq_core.specs.Views.{all_needed, operand_of}
use Rattle.eq_core.specs.declared.joints.Operand.{Operand}
use Rattle.aralia_text.specs.Texts.{operands_text}
use Rattle.aralia_text.proofs.printing.operands.Goals as goal

pub returns-in_err-operand : goal.returns-in_err-operand
returns-in_err-operand g c =
    let e : c.args.gate.now.operands.items ≡ (c.in-Some.first.now ∷ c.in-Some.others.now) =
    sym c.deref.ensures.value ∙ c.in-Some.ensures.cases.0 in
    writes_exit _ _ c.from_residual.ensures.1
    (writes_as _ _ (ap (λ (z : List Operand). operands_text c.args.events.now (all_needed c.args.gate.now.joint)
    (map operand_of z)) (sym e))
    (writes_front _ _ c.in_err-operand.ensures))

pub returns : goal.returns
returns g c =
    let e : c.args.gate.now.operands.items ≡ (c.in-Some.first.now ∷ c.in-Some.others.now) =
    sym c.deref.ensures.value ∙ c.in-Some.ensures.cases.0 in
    writes_as _ _ (ap (λ (z : List Operand). operands_text c.args.events.now (all_needed c.args.gate.now.joint)
    (map operand_of z)) (sym e))
    (writes_on c.in_ok-operand.ensures c.more.ensures)
