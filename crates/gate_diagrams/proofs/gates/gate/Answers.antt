use Rattle.std.proofs.Common.{◌≡◌, ◌<◌, map, length, refl, sym, ◌∙◌, subst, arith}
use Rattle.std.proofs.lemmas.List.{length-map}
use Rattle.std.proofs.lemmas.Option.{slice_get_read}
use Rattle.std.proofs.lemmas.Result.{err_from_is_err_and}
use Rattle.eq_core.specs.Views.{operand_of, gate_of}
use Rattle.ar_base.proofs.Standing.{stands_map}
use Rattle.gate_diagrams.proofs.MoreOperands as m
use Rattle.gate_diagrams.proofs.GateLoop as l
use Rattle.gate_diagrams.proofs.gates.gate.Goals as goal

pub index-requires : goal.index-requires
index-requires c =
    let e : 0 < length c.args.gate.now.operands.items =
    subst (λ z. 0 < z) (length-map c.args.gate.now.operands.items operand_of)
    (l.some (map gate_of c.args.gates.now) (operand_of c.args.root) (length c.args.table.now)
    (gate_of c.args.gate.now) c.args.table.now c.args.ops.now c.args.firable.n c.requires.firable_in
    c.requires.ready) in
    omega (arith, e, c.args.gate.now.operands.ok)

pub operand-requires-clause-table : goal.operand-requires-clause-table
operand-requires-clause-table c =
    let e = subst (λ z. 0 < z) (length-map c.args.gate.now.operands.items operand_of)
    (l.some (map gate_of c.args.gates.now) (operand_of c.args.root) (length c.args.table.now)
    (gate_of c.args.gate.now) c.args.table.now c.args.ops.now c.args.firable.n c.requires.firable_in
    c.requires.ready) in
    m.is_in_table (map gate_of c.args.gates.now) (operand_of c.args.root) (length c.args.table.now)
    (gate_of c.args.gate.now) c.args.table.now c.args.ops.now c.args.firable.n c.requires.firable_in
    c.requires.ready 0 (operand_of c.index.result.now)
    (stands_map operand_of c.args.gate.now.operands.items 0 c.index.result.now
    (slice_get_read c.args.gate.now.operands.items (length c.args.gate.now.operands.items) 0 c.index.result.now refl
    e c.index.ensures))

pub operand-requires-clause-named : goal.operand-requires-clause-named
operand-requires-clause-named c =
    let e = subst (λ z. 0 < z) (length-map c.args.gate.now.operands.items operand_of)
    (l.some (map gate_of c.args.gates.now) (operand_of c.args.root) (length c.args.table.now)
    (gate_of c.args.gate.now) c.args.table.now c.args.ops.now c.args.firable.n c.requires.firable_in
    c.requires.ready) in
    m.is_named (map gate_of c.args.gates.now) (operand_of c.args.root) (length c.args.table.now)
    (gate_of c.args.gate.now) c.args.table.now c.args.ops.now c.args.firable.n c.requires.firable_in
    c.requires.ready 0 (operand_of c.index.result.now)
    (stands_map operand_of c.args.gate.now.operands.items 0 c.index.result.now
    (slice_get_read c.args.gate.now.operands.items (length c.args.gate.now.operands.items) 0 c.index.result.now refl
    e c.index.ensures))

pub loop-place-init : goal.loop-place-init
loop-place-init c =
    let e = subst (λ z. 0 < z) (length-map c.args.gate.now.operands.items operand_of)
    (l.some (map gate_of c.args.gates.now) (operand_of c.args.root) (length c.args.table.now)
    (gate_of c.args.gate.now) c.args.table.now c.args.ops.now c.args.firable.n c.requires.firable_in
    c.requires.ready) in
    l.begun (map gate_of c.args.gates.now) (operand_of c.args.root) (length c.args.table.now) (gate_of c.args.gate.now)
    c.args.table.now c.args.ops.now c.args.firable.n c.requires.firable_in c.requires.ready
    (operand_of c.index.result.now)
    (stands_map operand_of c.args.gate.now.operands.items 0 c.index.result.now
    (slice_get_read c.args.gate.now.operands.items (length c.args.gate.now.operands.items) 0 c.index.result.now refl
    e c.index.ensures))
    c.operand.new.ops c.in_ok-so_far.so_far c.in_ok-so_far.ensures.drawn

pub one_more-requires-clause-firable_in : goal.one_more-requires-clause-firable_in
one_more-requires-clause-firable_in c =
    l.firable_in (map gate_of c.args.gates.now) (operand_of c.args.root) (length c.args.table.now)
    (gate_of c.args.gate.now) c.args.table.now c.args.ops.now c.args.firable.n c.requires.firable_in
    c.requires.ready c.loop-place.place c.loop-place.ops c.loop-place.so_far.n c.loop-place.invariant

pub one_more-requires-clause-ready : goal.one_more-requires-clause-ready
one_more-requires-clause-ready c =
    l.still_ready (map gate_of c.args.gates.now) (operand_of c.args.root) (length c.args.table.now)
    (gate_of c.args.gate.now) c.args.table.now c.args.ops.now c.args.firable.n c.requires.firable_in
    c.requires.ready c.loop-place.place c.loop-place.ops c.loop-place.so_far.n c.loop-place.invariant

pub one_more-requires-clause-so_far_in : goal.one_more-requires-clause-so_far_in
one_more-requires-clause-so_far_in c = c.loop-place.invariant.in_store

pub one_more-requires-clause-so_far_is : goal.one_more-requires-clause-so_far_is
one_more-requires-clause-so_far_is c =
    l.so_far_is (map gate_of c.args.gates.now) (operand_of c.args.root) (length c.args.table.now)
    (gate_of c.args.gate.now) c.args.table.now c.args.ops.now c.args.firable.n c.requires.firable_in
    c.requires.ready c.loop-place.place c.loop-place.ops c.loop-place.so_far.n c.loop-place.invariant

pub returns-in_err-so_far-2 : goal.returns-in_err-so_far-2
returns-in_err-so_far-2 c =
    let p = err_from_is_err_and c.from_residual-in_err-so_far-2.result c.from_residual-in_err-so_far-2.ensures.1 in
    rw (p.1, p.2) (record {
      drawn = l.more_refused (map gate_of c.args.gates.now) (operand_of c.args.root)
          (length c.args.table.now) (gate_of c.args.gate.now) c.args.table.now c.args.ops.now c.args.firable.n
          c.requires.firable_in c.requires.ready c.loop-place.place c.loop-place.ops c.loop-place.so_far.n
          c.loop-place.invariant c.one_more.new.ops _ c.in_err-so_far-2.ensures.drawn;
    })

pub loop-place-preserved : goal.loop-place-preserved
loop-place-preserved c =
    l.one_more (map gate_of c.args.gates.now) (operand_of c.args.root) (length c.args.table.now)
    (gate_of c.args.gate.now) c.args.table.now c.args.ops.now c.args.firable.n c.requires.firable_in
    c.requires.ready c.loop-place.place c.loop-place.ops c.loop-place.so_far.n c.loop-place.invariant
    c.one_more.new.ops c.in_ok-so_far-2.so_far c.in_ok-so_far-2.ensures.drawn

pub returns : goal.returns
returns c =
    let e : 0 < length c.args.gate.now.operands.items =
    subst (λ z. 0 < z) (length-map c.args.gate.now.operands.items operand_of)
    (l.some (map gate_of c.args.gates.now) (operand_of c.args.root) (length c.args.table.now)
    (gate_of c.args.gate.now) c.args.table.now c.args.ops.now c.args.firable.n c.requires.firable_in
    c.requires.ready) in
    let n : c.len-place-end.result ≡ length c.args.gate.now.operands.items =
    omega (arith, c.len-place-end.ensures, c.args.gate.now.operands.ok) in
    let b = c.loop-place.auto.place-end (omega (arith, e, n)) in
    let k : c.loop-place.place ≡ length c.args.gate.now.operands.items = omega (arith, b, n, c.loop-place-test.false) in
    record {
      drawn = l.ended (map gate_of c.args.gates.now) (operand_of c.args.root) (length c.args.table.now)
          (gate_of c.args.gate.now) c.args.table.now c.args.ops.now c.args.firable.n c.requires.firable_in
          c.requires.ready c.loop-place.place c.loop-place.ops c.loop-place.so_far c.loop-place.invariant
          (k ∙ sym (length-map c.args.gate.now.operands.items operand_of));
    }
