use Rattle.std.proofs.Common.{◌≡◌, ◌<◌, true, false, OnOk, length, get_or, map, refl, sym, ap, ◌∙◌, subst, arith}
use Rattle.std.specs.Vec.{with_item}
use Rattle.std.proofs.lemmas.Result.{on_ok_weaker}
use Rattle.std.specs.List.Sorted.{IsPermutation}
use Rattle.ar_base.specs.Lists.{Stands}
use Rattle.ar_base.proofs.Standing.{stands_item, stands_map}
use Rattle.eq_core.specs.ValuesInside.{IsBelow}
use Rattle.eq_core.specs.Views.{gate_of, operand_of}
use Rattle.eq_core.specs.declared.joints.Gate.{Gate}
use Rattle.event_order.specs.Visiting.{Looks}
use Rattle.event_order.specs.declared.visiting.Walk.{Walk}
use Rattle.event_order.proofs.Walking.{looks_gate}
use Rattle.event_order.proofs.visiting.look.Goals as goal

pub returns-in_ok-operands-in-Gate : goal.returns-in_ok-operands-in-Gate
returns-in_ok-operands-in-Gate c =
    let walk = c.args.walk.now in
    let gates = c.args.gates.now in
    let n = c.in-Gate.gate.n in
    let gate = c.index-gates-number.result in
    let sorted = c.in_ok-operands-in-Gate.operands.items in
    let new : Walk = record {
      stack = c.push_all.new.stack;
      seen = with_item walk.seen n true;
      numbering = walk.numbering;
    } in
    let inside : n < length gates =
    subst (λ o. IsBelow (length gates) (operand_of o)) c.in-Gate.is c.requires.below in
    let st = stands_map gate_of gates n gate (stands_item gates n gate inside c.index-gates-number.is) in
    let not_seen : Stands walk.seen.items n false =
    stands_item walk.seen.items n false (omega (arith, inside, c.requires.seen))
    (subst (λ b. b ≡ get_or walk.seen.items n b) c.if-index.false c.index.ensures) in
    let perm = subst (λ z. IsPermutation z sorted)
    (c.deref.ensures.value ∙ ap (λ (x : Gate). x.operands.items) (sym c.index-gates-number.is))
    c.in_ok-operands-in-Gate.ensures in
    subst (λ o. OnOk c.push_all.result (Looks c.args.trees.now (map gate_of gates) (operand_of o) walk new))
    (sym c.in-Gate.is)
    (on_ok_weaker c.push_all.result
    (λ p. looks_gate c.args.trees.now (map gate_of gates) n c.in-Gate.field-1 (gate_of gate) walk new gate.operands.items
    sorted st refl perm not_seen refl c.requires.taken refl p)
    c.push_all.ensures)
