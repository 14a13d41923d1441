use Rattle.std.proofs.Common.{◌≡◌, ◌<◌, true, cond, Ok, Err, [], ◌+◌, map, length, refl, sym, ◌∙◌, subst, arith}
use Rattle.std.proofs.lemmas.List.{length-map}
use Rattle.std.proofs.lemmas.Option.{slice_get_read}
use Rattle.std.proofs.lemmas.Result.{err_from_is_err_and}
use Rattle.ar_base.specs.Lists.{Stands}
use Rattle.ar_base.proofs.Standing.{stands_map, stands_one}
use Rattle.zdd_nodes.specs.Nodes.{family, Draws}
use Rattle.eq_core.specs.Views.{gate_of, operand_of}
use Rattle.eq_core.specs.Gates.{GateIs}
use Rattle.eq_core.specs.ValuesInside.{IsBelow}
use Rattle.eq_core.specs.Cones.{InGateCone}
use Rattle.gate_diagrams.specs.Needed.{family_at, itself, IsNeeded}
use Rattle.gate_diagrams.specs.Drawing.{IsGateReady, IsGateTabled}
use Rattle.gate_diagrams.proofs.Tables as t
use Rattle.gate_diagrams.proofs.draw.draw.Goals as goal

pub loop-number-init : goal.loop-number-init
loop-number-init c =
    let all = family c.args.ops.now c.args.firable.n in
    subst (λ z. t.IsDrawing all (map gate_of c.args.gates.now) (operand_of c.args.root) 0 z c.args.ops.now
    c.args.ops.now) (sym c.new-table.ensures.items)
    (t.drawing_begins all (map gate_of c.args.gates.now) (operand_of c.args.root) c.args.ops.now)

pub next_gate-requires-clause-firable_in : goal.next_gate-requires-clause-firable_in
next_gate-requires-clause-firable_in c =
    t.firable_in (map gate_of c.args.gates.now) (operand_of c.args.root) c.args.firable.n c.args.ops.now
    c.requires.firable_in c.loop-number.number c.loop-number.table.items c.loop-number.ops c.loop-number.invariant

pub next_gate-requires-clause-ready : goal.next_gate-requires-clause-ready
next_gate-requires-clause-ready c = λ marked.
    let gates = c.args.gates.now in
    let table = c.loop-number.table.items in
    let marks = c.in_ok-marks.marks.items in
    let number = c.loop-number.number in
    let gate = c.index-gates-number.result in
    let is_marks = c.in_ok-marks.ensures in
    let at : number ≡ length table = sym c.loop-number.invariant.long in
    let stands : Stands gates number gate =
    slice_get_read gates (length gates) number gate refl c.loop-number-test.true c.index-gates-number.is in
    let inside : number < length marks =
    omega (arith, is_marks.long, length-map gates gate_of, c.loop-number-test.true) in
    let set : Stands marks number true =
    subst (λ b. Stands marks number b) marked
    (slice_get_read marks (length marks) number c.index.result.now refl inside c.index.ensures) in
    subst (λ z. IsGateReady (family c.loop-number.ops c.args.firable.n) (map gate_of gates) (operand_of c.args.root)
    (length z) (gate_of gate) z c.loop-number.ops) (sym c.deref.ensures.value)
    (t.ready_next (map gate_of c.args.gates.now) (operand_of c.args.root) c.args.firable.n c.args.ops.now
    c.requires.firable_in c.loop-number.number c.loop-number.table.items c.loop-number.ops c.loop-number.invariant
    c.requires.ordered c.requires.in_order (gate_of gate)
    (subst (InGateCone (map gate_of gates) (operand_of c.args.root)) at (is_marks.sound number set))
    (subst (λ n. Stands (map gate_of gates) n (gate_of gate)) at (stands_map gate_of gates number gate stands)))

pub returns-in_err-drawn : goal.returns-in_err-drawn
returns-in_err-drawn c =
    let gates = map gate_of c.args.gates.now in
    let all = family c.args.ops.now c.args.firable.n in
    let p = err_from_is_err_and c.from_residual-in_err-drawn.result c.from_residual-in_err-drawn.ensures.1 in
    rw (p.1, p.2) (record {
      drawn = t.next_refused (map gate_of c.args.gates.now) (operand_of c.args.root) c.args.firable.n c.args.ops.now
          c.requires.firable_in c.loop-number.number c.loop-number.table.items c.loop-number.ops c.loop-number.invariant
          c.index.result.now c.next_gate.new.ops c.in_err-drawn.field-0.0 (family_at all gates (operand_of c.args.root))
          (subst (λ z. Draws (IsNeeded (family c.loop-number.ops c.args.firable.n) gates (operand_of c.args.root))
          (cond c.index.result.now (family_at (family c.loop-number.ops c.args.firable.n) gates
          (GateIs (length z) true)) []) c.loop-number.ops c.next_gate.new.ops (Err c.in_err-drawn.field-0.0))
          c.deref.ensures.value c.in_err-drawn.ensures.drawn);
    })

pub returns-in_err-push : goal.returns-in_err-push
returns-in_err-push c =
    let gates = map gate_of c.args.gates.now in
    let all = family c.args.ops.now c.args.firable.n in
    let p = err_from_is_err_and c.from_residual-in_err-push.result c.from_residual-in_err-push.ensures.1 in
    rw (p.1, p.2) (record {
      drawn = t.next_memory (map gate_of c.args.gates.now) (operand_of c.args.root) c.args.firable.n c.args.ops.now
          c.requires.firable_in c.loop-number.number c.loop-number.table.items c.loop-number.ops c.loop-number.invariant
          c.index.result.now c.next_gate.new.ops (Ok c.in_ok-drawn.drawn) (family_at all gates (operand_of c.args.root))
          (subst (λ z. Draws (IsNeeded (family c.loop-number.ops c.args.firable.n) gates (operand_of c.args.root))
          (cond c.index.result.now (family_at (family c.loop-number.ops c.args.firable.n) gates
          (GateIs (length z) true)) []) c.loop-number.ops c.next_gate.new.ops (Ok c.in_ok-drawn.drawn))
          c.deref.ensures.value c.in_ok-drawn.ensures.drawn);
    })

pub loop-number-preserved : goal.loop-number-preserved
loop-number-preserved c =
    let gates = map gate_of c.args.gates.now in
    let all = family c.args.ops.now c.args.firable.n in
    let table = c.loop-number.table.items in
    let marks = c.in_ok-marks.marks.items in
    let number = c.loop-number.number in
    let is_marks = c.in_ok-marks.ensures in
    let at : number ≡ length table = sym c.loop-number.invariant.long in
    let inside : number < length marks =
    omega (arith, is_marks.long, length-map c.args.gates.now gate_of, c.loop-number-test.true) in
    let short : number < length gates = omega (arith, length-map c.args.gates.now gate_of, c.loop-number-test.true) in
    let read : Stands marks number c.index.result.now =
    slice_get_read marks (length marks) number c.index.result.now refl inside c.index.ensures in
    subst (λ z. t.IsDrawing all gates (operand_of c.args.root) (number + 1) z c.args.ops.now c.next_gate.new.ops)
    (sym c.in_ok-push.ensures.items)
    (t.drawing_next (map gate_of c.args.gates.now) (operand_of c.args.root) c.args.firable.n c.args.ops.now
    c.requires.firable_in c.loop-number.number c.loop-number.table.items c.loop-number.ops c.loop-number.invariant
    c.index.result.now c.next_gate.new.ops c.in_ok-drawn.drawn
    (λ x. stands_one marks number c.index.result.now true read
    (is_marks.whole number (subst (InGateCone gates (operand_of c.args.root)) (sym at) x) short))
    (subst (λ z. Draws (IsNeeded (family c.loop-number.ops c.args.firable.n) gates (operand_of c.args.root))
    (cond c.index.result.now (family_at (family c.loop-number.ops c.args.firable.n) gates (GateIs (length z) true)) [])
    c.loop-number.ops c.next_gate.new.ops (Ok c.in_ok-drawn.drawn))
    c.deref.ensures.value c.in_ok-drawn.ensures.drawn))

pub operand-requires-clause-firable_in : goal.operand-requires-clause-firable_in
operand-requires-clause-firable_in c =
    t.firable_in (map gate_of c.args.gates.now) (operand_of c.args.root) c.args.firable.n c.args.ops.now
    c.requires.firable_in c.loop-number.number c.loop-number.table.items c.loop-number.ops c.loop-number.invariant

pub operand-requires-clause-table : goal.operand-requires-clause-table
operand-requires-clause-table c =
    let long = length-map c.args.gates.now gate_of in
    let end : c.loop-number.number ≡ length c.args.gates.now =
    omega (arith, c.loop-number.auto.number-end, c.loop-number-test.false) in
    subst (λ z. IsGateTabled (family c.loop-number.ops c.args.firable.n) (map gate_of c.args.gates.now) z c.loop-number.ops
    (operand_of c.args.root)) (sym c.deref-2.ensures.value)
    (t.root_table (map gate_of c.args.gates.now) (operand_of c.args.root) c.args.firable.n c.args.ops.now
    c.requires.firable_in c.loop-number.number c.loop-number.table.items c.loop-number.ops c.loop-number.invariant
    (c.loop-number.invariant.long ∙ end ∙ sym long)
    (subst (λ n. IsBelow n (operand_of c.args.root)) (sym long) c.requires.root_in))

pub operand-requires-clause-named : goal.operand-requires-clause-named
operand-requires-clause-named c = itself refl

pub returns : goal.returns
returns c = record {
  drawn = t.root_drawn (map gate_of c.args.gates.now) (operand_of c.args.root) c.args.firable.n c.args.ops.now
      c.requires.firable_in c.loop-number.number c.loop-number.table.items c.loop-number.ops c.loop-number.invariant
      c.operand.new.ops c.operand.result c.operand.ensures.drawn;
}
