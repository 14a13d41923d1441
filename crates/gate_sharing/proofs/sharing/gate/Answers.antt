use Rattle.std.proofs.Common.{◌≡◌, length, refl, arith}
use Rattle.eq_core.specs.declared.joints.Gate.{Gate}
use Rattle.gate_sharing.proofs.Making.{code_ordered, code_adds}
use Rattle.gate_sharing.proofs.sharing.gate.Goals as goal

pub returns-clause-adds : goal.returns-clause-adds
returns-clause-adds c =
    let made : Gate = record { joint = c.plainer-joint.result; operands = c.in_ok-operands.operands } in
    let number : c.new-number.result.n ≡ length c.args.gates.now.items = omega (arith, c.args.gates.now.ok.0) in
    code_adds c.args.gates.now.items c.push.new.self.items c.plainer-joint.result c.args.literals.now made
    c.new-number.result c.eq.result refl c.in_ok-operands.ensures c.in_ok-push.ensures.items number c.eq.ensures
    c.requires.two c.requires.below

pub returns-clause-ordered : goal.returns-clause-ordered
returns-clause-ordered c =
    let made : Gate = record { joint = c.plainer-joint.result; operands = c.in_ok-operands.operands } in
    code_ordered c.args.gates.now.items c.push.new.self.items c.plainer-joint.result c.args.literals.now made refl
    c.in_ok-operands.ensures c.in_ok-push.ensures.items c.requires.ordered c.requires.two c.requires.below
