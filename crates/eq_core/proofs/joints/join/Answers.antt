use Rattle.std.proofs.Common.{map, ap, sym, ◌∙◌}
use Rattle.eq_core.specs.Views.{gate_of}
use Rattle.eq_core.proofs.Joining.{past_always, past_never, past_event, past_gate, at_always, at_never}
use Rattle.eq_core.proofs.joints.join.Goals as goal
use Rattle.eq_core.proofs.joints.join.Goals.{in-Always+else-eq, in-Never+else-eq-2, in-Event+in_ok-push-in-Event, in-Gate+in_ok-push-in-Gate}

pub returns-then-eq : goal.returns-then-eq
returns-then-eq c =
    at_always c.args.joint (map gate_of c.args.gates.now.items) c.loop-operand.kept.items c.args.operands.now
    c.loop-operand.operand-index c.loop-operand-test.true c.in-Always.is (sym c.eq.ensures ∙ c.if-eq.true)
    ∙ c.loop-operand.invariant

pub returns-then-eq-2 : goal.returns-then-eq-2
returns-then-eq-2 c =
    at_never c.args.joint (map gate_of c.args.gates.now.items) c.loop-operand.kept.items c.args.operands.now
    c.loop-operand.operand-index c.loop-operand-test.true c.in-Never.is (sym c.eq-in-Never.ensures ∙ c.if-eq-2.true)
    ∙ c.loop-operand.invariant

pub loop-operand-preserved : goal.loop-operand-preserved
loop-operand-preserved c =
    let j = c.args.joint in
    let gates = map gate_of c.args.gates.now.items in
    let kept = c.loop-operand.kept.items in
    let new = c.match-operand.kept.items in
    let os = c.args.operands.now in
    let i = c.loop-operand.operand-index in
    let inside = c.loop-operand-test.true in
    elim c.match-operand.branch [
      | in-Always+else-eq w ↦ rw w.kept-is
          (past_always j gates kept os i inside w.in-Always.is (sym w.eq.ensures ∙ w.if-eq.false)
          ∙ c.loop-operand.invariant)
      | in-Never+else-eq-2 w ↦ rw w.kept-is
          (past_never j gates kept os i inside w.in-Never.is (sym w.eq-in-Never.ensures ∙ w.if-eq-2.false)
          ∙ c.loop-operand.invariant)
      | in-Event+in_ok-push-in-Event w ↦
          past_event j gates kept os i inside new w.in-Event.field-0 w.in-Event.field-1 w.in-Event.is
          (ap (λ v. v.items) w.kept-is ∙ w.in_ok-push-in-Event.ensures.items) ∙ c.loop-operand.invariant
      | in-Gate+in_ok-push-in-Gate w ↦
          past_gate j gates kept os i inside new w.in-Gate.field-0 w.in-Gate.field-1 w.in-Gate.is
          (ap (λ v. v.items) w.kept-is ∙ w.in_ok-push-in-Gate.ensures.items) ∙ c.loop-operand.invariant
    ]
