use Rattle.std.proofs.Common.{◌∷◌, [], map, take, get_or, take_all, sym, subst}
use Rattle.std.proofs.lemmas.List.{take_more, map-append}
use Rattle.eq_core.specs.Views.{operand_of}
use Rattle.eq_core.specs.declared.joints.Operand.TheVariants.{Always}
use Rattle.eq_core.specs.Marks.{MarksOperands}
use Rattle.eq_core.proofs.Marking.{marks_none, marks_then}
use Rattle.eq_core.proofs.cones.mark_all.Goals as goal

pub loop-operand-init : goal.loop-operand-init
loop-operand-init c = marks_none c.args.marks.now

pub loop-operand-preserved : goal.loop-operand-preserved
loop-operand-preserved c =
    let k = c.loop-operand.operand-index in
    let operands = c.args.operands.now in
    let o = get_or operands k Always in
    subst (λ z. MarksOperands (map operand_of z) c.args.marks.now c.mark.new.marks)
    (sym (take_more operands k Always c.loop-operand-test.true))
    (subst (λ z. MarksOperands z c.args.marks.now c.mark.new.marks) (sym (map-append operand_of (take k operands) (o ∷ [])))
    (marks_then (map operand_of (take k operands)) (operand_of o ∷ []) c.args.marks.now c.loop-operand.marks
    c.mark.new.marks c.loop-operand.invariant c.mark.ensures))

pub returns : goal.returns
returns c =
    subst (λ z. MarksOperands (map operand_of z) c.args.marks.now c.loop-operand.marks)
    (take_all c.loop-operand.operand-index c.args.operands.now c.loop-operand-test.false) c.loop-operand.invariant
