use Rattle.std.proofs.Common.{◌+◌, List, map, take, sym, ap, ◌∙◌, subst}
use Rattle.eq_core.specs.Views.{operand_of}
use Rattle.gate_sharing.specs.declared.literals.Literal.{Literal}
use Rattle.gate_sharing.specs.declared.literals.Literal.TheVariants as l
use Rattle.gate_sharing.specs.Literals.{literal_operands, AreEnough}
use Rattle.gate_sharing.proofs.Needing.{operand_never, operand_passed, operand_kept}
use Rattle.gate_sharing.proofs.literals.literals_for.Goals as goal
use Rattle.gate_sharing.proofs.literals.literals_for.Goals.{in-Always, in-Event+in_ok-push-in-Event, in-Gate+in_ok-push-in-Gate}

pub returns-in-Never : goal.returns-in-Never
returns-in-Never c = operand_never c.args.operands.now c.loop-operand.operand-index c.loop-operand-test.true c.in-Never.is

pub loop-operand-preserved : goal.loop-operand-preserved
loop-operand-preserved c =
    let items = c.args.operands.now in
    let i = c.loop-operand.operand-index in
    let ls = c.loop-operand.literals.items in
    let short = c.loop-operand-test.true in
    elim c.match-operand.branch [
      | in-Always w ↦ subst (λ (z : List Literal). AreEnough (map operand_of (take (i + 1) items)) (literal_operands z))
          (sym (ap (λ v. v.items) w.literals-is)) (operand_passed items i short ls c.loop-operand.invariant w.in-Always.is)
      | in-Event+in_ok-push-in-Event w ↦ operand_kept items i short ls c.loop-operand.invariant
          (l.Event w.in-Event.event.n w.in-Event.sign) c.match-operand.literals.items (ap operand_of w.in-Event.is)
          (ap (λ v. v.items) w.literals-is ∙ w.in_ok-push-in-Event.ensures.items)
      | in-Gate+in_ok-push-in-Gate w ↦ operand_kept items i short ls c.loop-operand.invariant
          (l.Gate w.in-Gate.gate.n w.in-Gate.sign) c.match-operand.literals.items (ap operand_of w.in-Gate.is)
          (ap (λ v. v.items) w.literals-is ∙ w.in_ok-push-in-Gate.ensures.items)
    ]
