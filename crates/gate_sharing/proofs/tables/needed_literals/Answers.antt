use Rattle.std.proofs.Common.{◌≡◌, ◌<◌, ◌+◌, List, map, take, get_or, length, sym, ap, ◌∙◌, subst}
use Rattle.eq_core.specs.Ordered.{AreBelow}
use Rattle.eq_core.specs.Views.{all_needed, operand_of}
use Rattle.eq_core.specs.declared.joints.Operand.{Operand}
use Rattle.eq_core.specs.declared.joints.Operand.TheVariants.{Always}
use Rattle.gate_sharing.specs.declared.literals.Literal.{Literal}
use Rattle.gate_sharing.specs.declared.literals.Literal.TheVariants as l
use Rattle.gate_sharing.specs.Literals.{literal_operands, AreEnough}
use Rattle.gate_sharing.specs.Images.{with_sign, image, needed_for}
use Rattle.gate_sharing.proofs.Needing.{item_below, never_found, one_passed, one_kept}
use Rattle.gate_sharing.proofs.tables.needed_literals.Goals as goal
use Rattle.gate_sharing.proofs.tables.needed_literals.Goals.{in-Always, in-Event+in_ok-push-in-Event, in-Gate+in_ok-push-in-Gate}

pub image_of-requires : goal.image_of-requires
image_of-requires c =
    item_below (length c.args.images.now) c.deref-operand-items.result.now c.loop-operand.operand-index c.loop-operand-test.true
    (subst (λ (z : List Operand). AreBelow (length c.args.images.now) (map operand_of z)) (sym c.deref-operand-items.ensures.value) c.requires)

pub returns-in-Never : goal.returns-in-Never
returns-in-Never c =
    let both = all_needed c.args.gate.now.joint in
    let images = map operand_of c.args.images.now in
    let items = c.args.gate.now.operands.items in
    let i = c.loop-operand.operand-index in
    let short : i < length items = subst (λ (z : List Operand). i < length z) c.deref-operand-items.ensures.value c.loop-operand-test.true in
    let e : operand_of c.for_joint.result ≡ with_sign both (image images (operand_of (get_or items i Always))) =
    subst (λ (z : List Operand). operand_of c.for_joint.result ≡ with_sign both (image images (operand_of (get_or z i Always))))
    c.deref-operand-items.ensures.value (c.for_joint.ensures ∙ ap (with_sign both) c.image_of.ensures) in
    never_found both images items i short c.for_joint.result e c.in-Never.is

pub loop-operand-preserved : goal.loop-operand-preserved
loop-operand-preserved c =
    let both = all_needed c.args.gate.now.joint in
    let images = map operand_of c.args.images.now in
    let items = c.args.gate.now.operands.items in
    let i = c.loop-operand.operand-index in
    let ls = c.loop-operand.literals.items in
    let short : i < length items = subst (λ (z : List Operand). i < length z) c.deref-operand-items.ensures.value c.loop-operand-test.true in
    let e : operand_of c.for_joint.result ≡ with_sign both (image images (operand_of (get_or items i Always))) =
    subst (λ (z : List Operand). operand_of c.for_joint.result ≡ with_sign both (image images (operand_of (get_or z i Always))))
    c.deref-operand-items.ensures.value (c.for_joint.ensures ∙ ap (with_sign both) c.image_of.ensures) in
    elim c.match-for_joint.branch [
      | in-Always w ↦ subst (λ (z : List Literal). AreEnough (needed_for both images (map operand_of (take (i + 1) items))) (literal_operands z))
          (sym (ap (λ v. v.items) w.literals-is)) (one_passed both images items i short c.for_joint.result e ls c.loop-operand.invariant w.in-Always.is)
      | in-Event+in_ok-push-in-Event w ↦ one_kept both images items i short c.for_joint.result e ls c.loop-operand.invariant
          (l.Event w.in-Event.event.n w.in-Event.sign) c.match-for_joint.literals.items (ap operand_of w.in-Event.is)
          (ap (λ v. v.items) w.literals-is ∙ w.in_ok-push-in-Event.ensures.items)
      | in-Gate+in_ok-push-in-Gate w ↦ one_kept both images items i short c.for_joint.result e ls c.loop-operand.invariant
          (l.Gate w.in-Gate.gate.n w.in-Gate.sign) c.match-for_joint.literals.items (ap operand_of w.in-Gate.is)
          (ap (λ v. v.items) w.literals-is ∙ w.in_ok-push-in-Gate.ensures.items)
    ]
