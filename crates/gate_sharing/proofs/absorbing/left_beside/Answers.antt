use Rattle.std.proofs.Common.{◌≡◌, ◌<◌, ◌+◌, ◌++◌, List, map, take, get_or, length, sym, ap, ◌∙◌, subst}
use Rattle.eq_core.specs.Views.{all_needed, operand_of}
use Rattle.eq_core.specs.declared.joints.Operand.{Operand}
use Rattle.eq_core.specs.declared.joints.Operand.TheVariants.{Always}
use Rattle.gate_sharing.specs.declared.literals.Literal.{Literal}
use Rattle.gate_sharing.specs.declared.literals.Literal.TheVariants as l
use Rattle.gate_sharing.specs.Absorbing.{AreEnoughBeside}
use Rattle.gate_sharing.specs.Literals.{literal_operands}
use Rattle.gate_sharing.specs.Images.{with_sign}
use Rattle.gate_sharing.proofs.Absorbings.{part_never, part_passes, part_kept}
use Rattle.gate_sharing.proofs.absorbing.left_beside.Goals as goal
use Rattle.gate_sharing.proofs.absorbing.left_beside.Goals.{in-Always, in-Event+in_ok-push-in-Event, in-Gate+in_ok-push-in-Gate}

pub returns-in-Never : goal.returns-in-Never
returns-in-Never c =
    let both = all_needed c.args.gate.now.joint in
    let items = c.args.gate.now.operands.items in
    let i = c.loop-operand.operand-index in
    let short : i < length items = subst (λ (z : List Operand). i < length z) c.deref-operand-items.ensures.value c.loop-operand-test.true in
    let is : operand_of c.for_joint.result ≡ with_sign both (operand_of (get_or items i Always)) =
    subst (λ (z : List Operand). operand_of c.for_joint.result ≡ with_sign both (operand_of (get_or z i Always)))
    c.deref-operand-items.ensures.value c.for_joint.ensures in
    part_never (literal_operands (c.args.before.now ++ c.args.after.now)) both items i short c.for_joint.result c.beside.result is
    c.beside.ensures c.in-Never.is

pub loop-operand-preserved : goal.loop-operand-preserved
loop-operand-preserved c =
    let both = all_needed c.args.gate.now.joint in
    let items = c.args.gate.now.operands.items in
    let i = c.loop-operand.operand-index in
    let ls = c.loop-operand.left.items in
    let others = literal_operands (c.args.before.now ++ c.args.after.now) in
    let short : i < length items = subst (λ (z : List Operand). i < length z) c.deref-operand-items.ensures.value c.loop-operand-test.true in
    let is : operand_of c.for_joint.result ≡ with_sign both (operand_of (get_or items i Always)) =
    subst (λ (z : List Operand). operand_of c.for_joint.result ≡ with_sign both (operand_of (get_or z i Always)))
    c.deref-operand-items.ensures.value c.for_joint.ensures in
    elim c.match-beside.branch [
      | in-Always w ↦ subst (λ (z : List Literal). AreEnoughBeside others (map (with_sign both) (map operand_of (take (i + 1) items))) (literal_operands z))
          (sym (ap (λ v. v.items) w.left-is))
          (part_passes others both items i short c.for_joint.result c.beside.result is c.beside.ensures ls c.loop-operand.invariant w.in-Always.is)
      | in-Event+in_ok-push-in-Event w ↦ part_kept others both items i short c.for_joint.result c.beside.result is c.beside.ensures
          ls c.loop-operand.invariant (l.Event w.in-Event.event.n w.in-Event.sign) c.match-beside.left.items
          (ap operand_of w.in-Event.is) (λ q. cc) (λ q. cc) (ap (λ v. v.items) w.left-is ∙ w.in_ok-push-in-Event.ensures.items)
      | in-Gate+in_ok-push-in-Gate w ↦ part_kept others both items i short c.for_joint.result c.beside.result is c.beside.ensures
          ls c.loop-operand.invariant (l.Gate w.in-Gate.gate.n w.in-Gate.sign) c.match-beside.left.items
          (ap operand_of w.in-Gate.is) (λ q. cc) (λ q. cc) (ap (λ v. v.items) w.left-is ∙ w.in_ok-push-in-Gate.ensures.items)
    ]
