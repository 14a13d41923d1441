use Rattle.std.proofs.Common.{List, subst}
use Rattle.gate_sharing.specs.declared.literals.Literal.{Literal}
use Rattle.gate_sharing.specs.Absorbing.{LeavesOf}
use Rattle.gate_sharing.specs.Literals.{literal_operands}
use Rattle.gate_sharing.specs.Sharing.{AddsGates}
use Rattle.gate_sharing.proofs.Absorbings.{simplest_never, simplest_adds}
use Rattle.gate_sharing.proofs.sharing.Sharing.simplest.Goals as goal

pub returns-in_default : goal.returns-in_default
returns-in_default c =
    let os = literal_operands c.args.literals.now in
    simplest_never os c.args.self.now c.absorbed.new.self c.absorbed.ensures.grows c.requires
    (subst (λ z. LeavesOf os c.absorbed.new.self z) c.in_default.is c.in_ok-left.ensures.left)

pub returns : goal.returns
returns c =
    let os = literal_operands c.args.literals.now in
    let left = subst (λ z. LeavesOf os c.absorbed.new.self z) c.in-Some.is c.in_ok-left.ensures.left in
    simplest_adds os (literal_operands c.in-Some.left.items) c.args.self.now c.absorbed.new.self c.all_of-2.new.self c.all_of-2.result
    c.absorbed.ensures.grows c.requires left.0 left.1
    (subst (λ (z : List Literal). AddsGates (literal_operands z) c.absorbed.new.self c.all_of-2.new.self c.all_of-2.result)
    c.deref.ensures.value c.all_of-2.ensures)
