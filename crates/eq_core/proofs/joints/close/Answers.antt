use Rattle.std.proofs.Common.{◌≡◌, length, sym, ap, ◌∙◌, refl, arith}
use Rattle.eq_core.specs.Gates.{neutral}
use Rattle.eq_core.specs.Views.{all_needed, operand_of}
use Rattle.eq_core.specs.declared.joints.Joint.{Joint}
use Rattle.eq_core.specs.declared.joints.Gate.{Gate}
use Rattle.eq_core.proofs.Closing.{is_none, is_some, none_left, one_left, more_left}
use Rattle.eq_core.proofs.joints.close.Goals as goal
use Rattle.eq_core.proofs.joints.close.Goals.{in-And, in-Or}

pub returns-then-is_empty : goal.returns-then-is_empty
returns-then-is_empty c =
    let none : length c.args.kept.items ≡ 0 =
    sym c.args.kept.ok.0 ∙ is_none _ c.is_empty.result c.is_empty.ensures c.if-is_empty.true in
    let gates = c.args.gates.now.items in
    elim c.match-joint.branch [
      | in-And w ↦ none_left c.args.joint gates c.args.kept.items c.match-joint.result none
          (ap operand_of w.result-is ∙ sym (ap (λ (j : Joint). neutral (all_needed j)) w.in-And.is))
      | in-Or w ↦ none_left c.args.joint gates c.args.kept.items c.match-joint.result none
          (ap operand_of w.result-is ∙ sym (ap (λ (j : Joint). neutral (all_needed j)) w.in-Or.is))
    ]

pub index-requires : goal.index-requires
index-requires c = omega arith

pub returns-then-len-eq1 : goal.returns-then-len-eq1
returns-then-len-eq1 c =
    one_left c.args.joint c.args.gates.now.items c.args.kept.items c.index.result.now
    (sym c.args.kept.ok.0 ∙ sym c.len.ensures ∙ c.if-len-eq1.true) c.index.ensures

pub returns : goal.returns
returns c =
    let made : Gate = record { joint = c.args.joint; operands = c.args.kept } in
    let number : c.new-number.result.n ≡ length c.args.gates.now.items = omega (arith, c.args.gates.now.ok.0) in
    more_left c.args.joint c.args.gates.now.items c.push.new.self.items c.args.kept.items made c.new-number.result
    (λ e. is_some _ c.is_empty.result c.is_empty.ensures c.if-is_empty.false (c.args.kept.ok.0 ∙ e))
    (λ e. c.if-len-eq1.false (c.len.ensures ∙ c.args.kept.ok.0 ∙ e)) refl refl number c.in_ok-push.ensures.items
