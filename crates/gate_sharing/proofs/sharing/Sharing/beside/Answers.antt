use Rattle.std.proofs.Common.{◌<◌, ◌≤◌, ◌++◌, List, Ok, map, length, MatchOption, sym, ap, subst, arith}
use Rattle.std.proofs.lemmas.List.{length-map}
use Rattle.ar_base.specs.Lists.{Stands}
use Rattle.ar_base.proofs.Standing.{stands_item, stands_map}
use Rattle.eq_core.specs.Gates.{Gate, GateIs}
use Rattle.eq_core.specs.Ordered.{AreBelow}
use Rattle.eq_core.specs.ValuesInside.{IsBelow, GainsGates}
use Rattle.eq_core.specs.Views.{all_needed, gate_of}
use Rattle.eq_core.proofs.Telling.{place_below}
use Rattle.gate_sharing.specs.declared.literals.Literal.{Literal}
use Rattle.gate_sharing.specs.Absorbing.{needed_parts, AddsBeside, AreEnoughBeside, AreNeverBeside}
use Rattle.gate_sharing.specs.Literals.{literal_of, literal_operands}
use Rattle.gate_sharing.specs.Sharing.{AddsGates}
use Rattle.gate_sharing.proofs.Absorbings.{beside_decided, beside_left, left_below}
use Rattle.gate_sharing.proofs.sharing.Sharing.beside.Goals as goal

pub returns-in_default-2 : goal.returns-in_default-2
returns-in_default-2 c =
    let gates = c.self.inside.gates.items in
    let n = c.in-Gate.number in
    let gate = c.index-gate.result.now in
    let others = literal_operands (c.args.before.now ++ c.args.after.now) in
    let asked : n < length c.args.self.now =
    subst (λ (l : Literal). IsBelow (length c.args.self.now) (literal_of l)) c.in-Gate.is c.requires.literal in
    let short : n < length gates = omega (arith, asked, ap length c.self.view_is, length-map gates gate_of) in
    let stands : Stands (map gate_of gates) n (gate_of gate) =
    stands_map gate_of gates n gate (stands_item gates n gate short c.index-gate.ensures) in
    let never : AreNeverBeside others (needed_parts (gate_of gate)) =
    subst (λ z. MatchOption z (AreNeverBeside others (needed_parts (gate_of gate)))
    (λ left. AreEnoughBeside others (needed_parts (gate_of gate)) (literal_operands left.items))) c.in_default-2.is c.in_ok-left.ensures in
    subst (λ (l : Literal). AddsBeside others (literal_of l) c.args.self.now c.args.self.now (Ok c.for_joint.result)) (sym c.in-Gate.is)
    (subst (λ (z : List Gate). AddsBeside others (GateIs n c.in-Gate.sign) z z (Ok c.for_joint.result)) c.self.view_is
    (beside_decided (map gate_of gates) n (gate_of gate) c.in-Gate.sign (all_needed c.whole_joint-whole.result)
    (place_below (c.self.invariant.ordered.each n (gate_of gate) stands)) c.whole_joint-whole.ensures others c.for_joint.result
    stands never c.for_joint.ensures))

pub all_of-requires : goal.all_of-requires
all_of-requires c =
    let gates = c.self.inside.gates.items in
    let n = c.in-Gate.number in
    let gate = c.index-gate.result.now in
    let others = literal_operands (c.args.before.now ++ c.args.after.now) in
    let asked : n < length c.args.self.now =
    subst (λ (l : Literal). IsBelow (length c.args.self.now) (literal_of l)) c.in-Gate.is c.requires.literal in
    let short : n < length gates = omega (arith, asked, ap length c.self.view_is, length-map gates gate_of) in
    let stands : Stands (map gate_of gates) n (gate_of gate) =
    stands_map gate_of gates n gate (stands_item gates n gate short c.index-gate.ensures) in
    let enough : AreEnoughBeside others (needed_parts (gate_of gate)) (literal_operands c.in-Some.left.items) =
    subst (λ z. MatchOption z (AreNeverBeside others (needed_parts (gate_of gate)))
    (λ left. AreEnoughBeside others (needed_parts (gate_of gate)) (literal_operands left.items))) c.in-Some.is c.in_ok-left.ensures in
    let up : n ≤ length c.args.self.now = omega (arith, asked) in
    subst (λ (z : List Literal). AreBelow (length c.args.self.now) (literal_operands z)) (sym c.deref.ensures.value)
    (left_below n (length c.args.self.now) others (gate_of gate) (literal_operands c.in-Some.left.items) up
    (place_below (c.self.invariant.ordered.each n (gate_of gate) stands)) enough)

pub returns : goal.returns
returns c =
    let gates = c.self.inside.gates.items in
    let n = c.in-Gate.number in
    let gate = c.index-gate.result.now in
    let others = literal_operands (c.args.before.now ++ c.args.after.now) in
    let asked : n < length c.args.self.now =
    subst (λ (l : Literal). IsBelow (length c.args.self.now) (literal_of l)) c.in-Gate.is c.requires.literal in
    let short : n < length gates = omega (arith, asked, ap length c.self.view_is, length-map gates gate_of) in
    let stands : Stands (map gate_of gates) n (gate_of gate) =
    stands_map gate_of gates n gate (stands_item gates n gate short c.index-gate.ensures) in
    let enough : AreEnoughBeside others (needed_parts (gate_of gate)) (literal_operands c.in-Some.left.items) =
    subst (λ z. MatchOption z (AreNeverBeside others (needed_parts (gate_of gate)))
    (λ left. AreEnoughBeside others (needed_parts (gate_of gate)) (literal_operands left.items))) c.in-Some.is c.in_ok-left.ensures in
    let adds = subst (λ (z : List Literal). AddsGates (literal_operands z) c.args.self.now c.all_of.new.self (Ok c.in_ok-all.all))
    c.deref.ensures.value c.in_ok-all.ensures in
    subst (λ (l : Literal). AddsBeside others (literal_of l) c.args.self.now c.all_of.new.self (Ok c.for_joint-2.result)) (sym c.in-Gate.is)
    (subst (λ (z : List Gate). AddsBeside others (GateIs n c.in-Gate.sign) z c.all_of.new.self (Ok c.for_joint-2.result)) c.self.view_is
    (beside_left (map gate_of gates) n (gate_of gate) c.in-Gate.sign (all_needed c.whole_joint-whole.result)
    (place_below (c.self.invariant.ordered.each n (gate_of gate) stands)) c.whole_joint-whole.ensures others
    (literal_operands c.in-Some.left.items) c.all_of.new.self c.in_ok-all.all c.for_joint-2.result
    stands (subst (λ (z : List Gate). GainsGates z c.all_of.new.self) (sym c.self.view_is) adds.grows) enough adds.made c.for_joint-2.ensures))
