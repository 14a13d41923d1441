use Rattle.std.proofs.Common.{◌≡◌, ℕ, List, ◌∷◌, ◌++◌, [], map, sym, ap, ◌∙◌, subst}
use Rattle.std.proofs.lemmas.List.{map-append}
use Rattle.eq_core.specs.Views.{all_needed, operand_of}
use Rattle.eq_core.specs.Gates as g
use Rattle.eq_core.specs.declared.joints.Operand.{Operand}
use Rattle.aralia_text.proofs.GateLines.{IsSoFar, no_first, no_joint, no_second, two_read, one_more, no_more, no_end, line_ends}
use Rattle.aralia_text.specs.Texts.{operand_text, joint_text}
use Rattle.aralia_text.specs.Fronts.{IsOperandAt, PathStops, IsStuckIn}
use Rattle.aralia_text.proofs.Results.{stop_is}
use Rattle.aralia_text.proofs.Stuck.{no_prefix, prefixed_stuck, prefixed_read}
use Rattle.aralia_text.proofs.gates.operands.Goals as goal

pub returns-in_err-first-clause-stuck : goal.returns-in_err-first-clause-stuck
returns-in_err-first-clause-stuck c =
    stop_is _ c.from_residual.result c.in_err-first.field-0.0 c.from_residual.ensures.1
    (no_first _ _ _ _ c.in_err-first.ensures.stuck)

pub returns-in_err-joint-clause-stuck : goal.returns-in_err-joint-clause-stuck
returns-in_err-joint-clause-stuck c =
    stop_is _ c.from_residual-in_err-joint.result c.in_err-joint.field-0.0 c.from_residual-in_err-joint.ensures.1
    (no_joint _ _ _ _ _ c.in_ok-first.ensures.found _ c.in_err-joint.ensures.stuck)

pub returns-in_err-second-clause-stuck : goal.returns-in_err-second-clause-stuck
returns-in_err-second-clause-stuck c =
    stop_is _ c.from_residual-in_err-second.result c.in_err-second.field-0.0 c.from_residual-in_err-second.ensures.1
    (no_second _ _ _ _ _ c.in_ok-first.ensures.found _ _ c.in_ok-joint.ensures.found _ c.in_err-second.ensures.stuck)

pub loop-left-init : goal.loop-left-init
loop-left-init c =
    let items : c.push-2.new.self.items ≡ c.in_ok-first.first ∷ c.in_ok-second.second ∷ [] =
    c.in_ok-push-2.ensures.items ∙ ap (λ (z : List Operand). z ++ c.in_ok-second.second ∷ [])
    (c.in_ok-push.ensures.items ∙ ap (λ (z : List Operand). z ++ c.in_ok-first.first ∷ [])
    c.new-operands.ensures.items) in
    subst (λ (z : List Operand). IsSoFar c.args.gates c.args.names.now c.args.rest.now (all_needed c.in_ok-joint.joint)
    (map operand_of z) c.in_ok-second.left.now) (sym items)
    (two_read _ _ _ _ _ c.in_ok-first.ensures.found _ _ c.in_ok-joint.ensures.found _ _ c.in_ok-second.ensures.found)

pub returns-in_err-behind-clause-stuck : goal.returns-in_err-behind-clause-stuck
returns-in_err-behind-clause-stuck c =
    stop_is _ c.from_residual-in_err-behind.result c.in_err-behind.field-0.0 c.from_residual-in_err-behind.ensures.1
    (no_end _ _ _ _ _ _ c.loop-left.invariant (sym c.begins_with.ensures ∙ c.if-begins_with.true) _
    c.in_err-behind.ensures.stuck)

pub returns-then-begins_with-clause-found : goal.returns-then-begins_with-clause-found
returns-then-begins_with-clause-found c = line_ends _ _ _ _ _ _ c.loop-left.invariant _ c.in_ok-behind.ensures.found

pub returns-in_err-after-clause-stuck : goal.returns-in_err-after-clause-stuck
returns-in_err-after-clause-stuck c =
    stop_is _ c.from_residual-in_err-after.result c.in_err-after.field-0.0 c.from_residual-in_err-after.ensures.1
    (no_more _ _ _ _ _ _ c.loop-left.invariant (sym c.begins_with.ensures ∙ c.if-begins_with.false) _
    (no_prefix (IsOperandAt c.args.gates c.args.names.now) (operand_text c.args.names.now) PathStops
    (joint_text (all_needed c.in_ok-joint.joint)) c.loop-left.left.now c.requires.some.0 c.requires.some.1 _
    (subst (λ (z : List ℕ). IsStuckIn z c.loop-left.left.now c.in_err-after.field-0.0.left)
    (c.as_bytes.ensures.value ∙ c.between.ensures) c.in_err-after.ensures.stuck)))

pub returns-in_err-one-clause-stuck : goal.returns-in_err-one-clause-stuck
returns-in_err-one-clause-stuck c =
    stop_is _ c.from_residual-in_err-one.result c.in_err-one.field-0.0 c.from_residual-in_err-one.ensures.1
    (no_more _ _ _ _ _ _ c.loop-left.invariant (sym c.begins_with.ensures ∙ c.if-begins_with.false) _
    (prefixed_stuck (IsOperandAt c.args.gates c.args.names.now) (operand_text c.args.names.now) PathStops
    (joint_text (all_needed c.in_ok-joint.joint)) c.loop-left.left.now c.in_ok-after.after.now
    (c.in_ok-after.ensures.found ∙ ap (λ (z : List ℕ). z ++ c.in_ok-after.after.now)
    (c.as_bytes.ensures.value ∙ c.between.ensures)) c.requires.some.0 c.requires.some.1 _ c.in_err-one.ensures.stuck))

pub loop-left-preserved : goal.loop-left-preserved
loop-left-preserved c =
    let items : map operand_of c.push-in-loop-left.new.self.items
    ≡ map operand_of c.loop-left.operands.items ++ operand_of c.in_ok-one.one ∷ [] =
    ap (λ (z : List Operand). map operand_of z) c.in_ok-push-3.ensures.items
    ∙ map-append operand_of c.loop-left.operands.items (c.in_ok-one.one ∷ []) in
    subst (λ (z : List g.Operand). IsSoFar c.args.gates c.args.names.now c.args.rest.now
    (all_needed c.in_ok-joint.joint) z c.in_ok-one.behind.now) (sym items)
    (one_more _ _ _ _ _ _ c.loop-left.invariant (sym c.begins_with.ensures ∙ c.if-begins_with.false) _ _
    (prefixed_read (IsOperandAt c.args.gates c.args.names.now) (operand_text c.args.names.now) PathStops
    (joint_text (all_needed c.in_ok-joint.joint)) c.loop-left.left.now c.in_ok-after.after.now
    (c.in_ok-after.ensures.found ∙ ap (λ (z : List ℕ). z ++ c.in_ok-after.after.now)
    (c.as_bytes.ensures.value ∙ c.between.ensures)) (operand_of c.in_ok-one.one) c.in_ok-one.behind.now c.in_ok-one.ensures.found))
