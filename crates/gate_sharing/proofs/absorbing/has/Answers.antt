use Rattle.std.proofs.Common.{◌≡◌, ◌++◌, sym, ap, ◌∙◌, subst}
use Rattle.ar_base.specs.Lists.{IsOneOf}
use Rattle.eq_core.specs.Gates.{Operand}
use Rattle.eq_core.specs.Views.{operand_of}
use Rattle.gate_sharing.specs.Literals.{literal_of, literal_operands}
use Rattle.gate_sharing.proofs.Absorbings.{one_any, has_before, has_after}
use Rattle.gate_sharing.proofs.absorbing.has.Goals as goal
use Rattle.gate_sharing.proofs.absorbing.has.Goals.{in-Event, in-Gate}

pub returns-then-contains : goal.returns-then-contains
returns-then-contains c = λ h.
    let l = c.match-operand.literal in
    let is : literal_of l ≡ operand_of c.args.operand = elim c.match-operand.branch [
      | in-Event w ↦ ap literal_of w.literal-is ∙ sym (ap operand_of w.in-Event.is)
      | in-Gate w ↦ ap literal_of w.literal-is ∙ sym (ap operand_of w.in-Gate.is)
    ] in
    subst (λ (z : Operand). IsOneOf (literal_operands (c.args.before.now ++ c.args.after.now)) z) is
    (has_before c.args.before.now c.args.after.now l (one_any c.args.before.now l (sym c.contains.ensures.value ∙ h)))

pub returns-else-contains : goal.returns-else-contains
returns-else-contains c = λ h.
    let l = c.match-operand.literal in
    let is : literal_of l ≡ operand_of c.args.operand = elim c.match-operand.branch [
      | in-Event w ↦ ap literal_of w.literal-is ∙ sym (ap operand_of w.in-Event.is)
      | in-Gate w ↦ ap literal_of w.literal-is ∙ sym (ap operand_of w.in-Gate.is)
    ] in
    subst (λ (z : Operand). IsOneOf (literal_operands (c.args.before.now ++ c.args.after.now)) z) is
    (has_after c.args.before.now c.args.after.now l (one_any c.args.after.now l (sym c.contains-else-contains.ensures.value ∙ h)))
