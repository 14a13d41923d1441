use Rattle.std.proofs.Common.{refl, ap, ◌∙◌}
use Rattle.std.proofs.lemmas.Result.{err_from_is_err_and}
use Rattle.std.proofs.lemmas.Option.{slice_get-get_or}
use Rattle.eq_core.specs.Gates.{EventIs, GateIs}
use Rattle.eq_core.specs.Views.{operand_of, gate_of}
use Rattle.std.proofs.Common.{map}
use Rattle.gate_diagrams.proofs.Operands as o
use Rattle.gate_diagrams.proofs.gates.operand.Goals as goal

pub returns-in-Always : goal.returns-in-Always
returns-in-Always c = record {
  drawn = o.always (map gate_of c.args.gates.now) (operand_of c.args.root)
      (operand_of c.args.operand) c.requires.named c.args.ops.now c.args.firable.n c.requires.firable_in
      (ap operand_of c.in-Always.is) c.args.firable refl;
}

pub returns-in-Never : goal.returns-in-Never
returns-in-Never c = record {
  drawn = o.never (map gate_of c.args.gates.now) (operand_of c.args.root)
      (operand_of c.args.operand) c.requires.named c.args.ops.now c.args.firable.n c.requires.firable_in
      (ap operand_of c.in-Never.is) c.new.result c.new.ensures;
}

pub returns-in_err-plain-in-Event : goal.returns-in_err-plain-in-Event
returns-in_err-plain-in-Event c =
    let p = err_from_is_err_and c.from_residual.result c.from_residual.ensures.1 in
    rw (p.1, p.2) (record {
      drawn = o.event_refused (map gate_of c.args.gates.now) (operand_of c.args.root) (operand_of c.args.operand)
          c.requires.named c.args.ops.now c.args.firable.n c.requires.firable_in
          c.in-Event.event.n c.in-Event.sign (ap operand_of c.in-Event.is) c.having.new.self _
          c.in_err-plain-in-Event.ensures.drawn;
    })

pub returns-then-sign : goal.returns-then-sign
returns-then-sign c = record {
  drawn = o.event (map gate_of c.args.gates.now) (operand_of c.args.root) (operand_of c.args.operand) c.requires.named
      c.args.ops.now c.args.firable.n c.requires.firable_in
      c.in-Event.event.n (ap operand_of c.in-Event.is ∙ ap (EventIs c.in-Event.event.n) c.if-sign.true)
      c.having.new.self _ c.in_ok-plain-in-Event.ensures.drawn;
}

pub returns-else-sign : goal.returns-else-sign
returns-else-sign c = record {
  drawn = o.event_negated (map gate_of c.args.gates.now) (operand_of c.args.root) (operand_of c.args.operand)
      c.requires.named c.args.ops.now c.args.firable.n c.requires.firable_in
      c.in-Event.event.n (ap operand_of c.in-Event.is ∙ ap (EventIs c.in-Event.event.n) c.if-sign.false)
      c.having.new.self c.minus.new.self c.in_ok-plain-in-Event.plain c.minus.result
      c.in_ok-plain-in-Event.ensures.drawn c.minus.ensures.drawn;
}

pub returns-then-sign-2 : goal.returns-then-sign-2
returns-then-sign-2 c =
    let e = ap operand_of c.in-Gate.is in
    record {
      drawn = o.gate (map gate_of c.args.gates.now) (operand_of c.args.root) (operand_of c.args.operand)
          c.requires.named c.args.ops.now c.args.firable.n c.requires.firable_in
          c.in-Gate.gate.n (e ∙ ap (GateIs c.in-Gate.gate.n) c.if-sign-2.true) _
          (c.requires.table.drawn c.in-Gate.gate.n c.in-Gate.sign _ e
          (slice_get-get_or c.args.table.now c.in-Gate.gate.n _
          (c.requires.table.in_table c.in-Gate.gate.n c.in-Gate.sign e)));
    }

pub minus-requires-in-Gate-clause-g_in : goal.minus-requires-in-Gate-clause-g_in
minus-requires-in-Gate-clause-g_in c =
    let e = ap operand_of c.in-Gate.is in
    (c.requires.table.drawn c.in-Gate.gate.n c.in-Gate.sign _ e
    (slice_get-get_or c.args.table.now c.in-Gate.gate.n _
    (c.requires.table.in_table c.in-Gate.gate.n c.in-Gate.sign e))).in_store

pub returns-else-sign-2 : goal.returns-else-sign-2
returns-else-sign-2 c =
    let e = ap operand_of c.in-Gate.is in
    record {
      drawn = o.gate_negated (map gate_of c.args.gates.now) (operand_of c.args.root) (operand_of c.args.operand)
          c.requires.named c.args.ops.now c.args.firable.n c.requires.firable_in
          c.in-Gate.gate.n (e ∙ ap (GateIs c.in-Gate.gate.n) c.if-sign-2.false) _
          (c.requires.table.drawn c.in-Gate.gate.n c.in-Gate.sign _ e
          (slice_get-get_or c.args.table.now c.in-Gate.gate.n _
          (c.requires.table.in_table c.in-Gate.gate.n c.in-Gate.sign e)))
          c.minus-in-Gate.new.self c.minus-in-Gate.result c.minus-in-Gate.ensures.drawn;
    }
