use Rattle.std.proofs.Common.{List, Ok, MatchOption, map, subst}
use Rattle.eq_core.specs.Views.{all_needed, operand_of}
use Rattle.gate_sharing.specs.declared.literals.Literal.{Literal}
use Rattle.gate_sharing.specs.Images.{needed_for}
use Rattle.gate_sharing.specs.Literals.{literal_operands, AreEnough, AreNeverAll}
use Rattle.gate_sharing.specs.Sharing.{AddsGates}
use Rattle.gate_sharing.proofs.Imaging.{image_made}
use Rattle.gate_sharing.proofs.tables.next_image.Goals as goal

pub returns : goal.returns
returns c =
    let both = all_needed c.args.gate.now.joint in
    let os = needed_for both (map operand_of c.args.images.now) (map operand_of c.args.gate.now.operands.items) in
    let literals = c.in-Some.literals.items in
    image_made c.args.needed both os (literal_operands literals) c.args.sharing.now c.by_votes.new.self c.in_ok-all.all
    c.for_joint-2.result
    (subst (λ z. MatchOption z (AreNeverAll os) (λ ls. AreEnough os (literal_operands ls.items))) c.in-Some.is c.in_ok-literals.ensures)
    (subst (λ (z : List Literal). AddsGates (literal_operands z) c.args.sharing.now c.by_votes.new.self (Ok c.in_ok-all.all))
    c.deref.ensures.value c.in_ok-all.ensures)
    c.for_joint-2.ensures
