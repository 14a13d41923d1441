use Rattle.std.proofs.Common.{cond, refl, sym, subst, map, length}
use Rattle.std.proofs.lemmas.Option.{slice_get_read}
use Rattle.zdd_nodes.specs.FamiliesInside.{meet, union}
use Rattle.zdd_nodes.specs.Sections.{IsCounted}
use Rattle.zdd_nodes.specs.Nodes.{family, Draws}
use Rattle.eq_core.specs.declared.joints.Joint.{Joint}
use Rattle.eq_core.specs.Views.{all_needed, operand_of, gate_of}
use Rattle.ar_base.proofs.Standing.{stands_map}
use Rattle.gate_diagrams.proofs.MoreOperands as m
use Rattle.gate_diagrams.proofs.gates.one_more.Goals as goal

pub operand-requires-clause-table : goal.operand-requires-clause-table
operand-requires-clause-table c =
    m.is_in_table (map gate_of c.args.gates.now) (operand_of c.args.root) (length c.args.table.now)
    (gate_of c.args.gate.now) c.args.table.now c.args.ops.now c.args.firable.n c.requires.firable_in
    c.requires.ready c.args.place (operand_of c.index.result.now)
    (stands_map operand_of c.args.gate.now.operands.items c.args.place c.index.result.now
    (slice_get_read c.args.gate.now.operands.items (length c.args.gate.now.operands.items) c.args.place
    c.index.result.now refl c.requires.place_in c.index.ensures))

pub operand-requires-clause-named : goal.operand-requires-clause-named
operand-requires-clause-named c =
    m.is_named (map gate_of c.args.gates.now) (operand_of c.args.root) (length c.args.table.now)
    (gate_of c.args.gate.now) c.args.table.now c.args.ops.now c.args.firable.n c.requires.firable_in
    c.requires.ready c.args.place (operand_of c.index.result.now)
    (stands_map operand_of c.args.gate.now.operands.items c.args.place c.index.result.now
    (slice_get_read c.args.gate.now.operands.items (length c.args.gate.now.operands.items) c.args.place
    c.index.result.now refl c.requires.place_in c.index.ensures))

pub returns-in-And : goal.returns-in-And
returns-in-And c = record {
  drawn =
      m.more_drawn (map gate_of c.args.gates.now) (operand_of c.args.root) (length c.args.table.now)
      (gate_of c.args.gate.now) c.args.table.now c.args.ops.now c.args.firable.n c.requires.firable_in
      c.requires.ready c.args.place (operand_of c.index.result.now)
      (stands_map operand_of c.args.gate.now.operands.items c.args.place c.index.result.now
      (slice_get_read c.args.gate.now.operands.items (length c.args.gate.now.operands.items) c.args.place
      c.index.result.now refl c.requires.place_in c.index.ensures))
      c.args.so_far c.in_ok-next.next c.requires.so_far_in c.requires.so_far_is c.operand.new.ops c.meet.new.self
      c.meet.result c.in_ok-next.ensures.drawn (subst (λ (j : Joint). Draws
      (IsCounted (cond (all_needed j) (meet (family c.operand.new.ops c.args.so_far.n)
      (family c.operand.new.ops c.in_ok-next.next.n)) (union (family c.operand.new.ops c.args.so_far.n)
      (family c.operand.new.ops c.in_ok-next.next.n))))
      (cond (all_needed j) (meet (family c.operand.new.ops c.args.so_far.n)
      (family c.operand.new.ops c.in_ok-next.next.n)) (union (family c.operand.new.ops c.args.so_far.n)
      (family c.operand.new.ops c.in_ok-next.next.n)))
      c.operand.new.ops c.meet.new.self c.meet.result) (sym c.in-And.is) c.meet.ensures.drawn);
}

pub returns-in-Or : goal.returns-in-Or
returns-in-Or c = record {
  drawn =
      m.more_drawn (map gate_of c.args.gates.now) (operand_of c.args.root) (length c.args.table.now)
      (gate_of c.args.gate.now) c.args.table.now c.args.ops.now c.args.firable.n c.requires.firable_in
      c.requires.ready c.args.place (operand_of c.index.result.now)
      (stands_map operand_of c.args.gate.now.operands.items c.args.place c.index.result.now
      (slice_get_read c.args.gate.now.operands.items (length c.args.gate.now.operands.items) c.args.place
      c.index.result.now refl c.requires.place_in c.index.ensures))
      c.args.so_far c.in_ok-next.next c.requires.so_far_in c.requires.so_far_is c.operand.new.ops c.union.new.self
      c.union.result c.in_ok-next.ensures.drawn (subst (λ (j : Joint). Draws
      (IsCounted (cond (all_needed j) (meet (family c.operand.new.ops c.args.so_far.n)
      (family c.operand.new.ops c.in_ok-next.next.n)) (union (family c.operand.new.ops c.args.so_far.n)
      (family c.operand.new.ops c.in_ok-next.next.n))))
      (cond (all_needed j) (meet (family c.operand.new.ops c.args.so_far.n)
      (family c.operand.new.ops c.in_ok-next.next.n)) (union (family c.operand.new.ops c.args.so_far.n)
      (family c.operand.new.ops c.in_ok-next.next.n)))
      c.operand.new.ops c.union.new.self c.union.result) (sym c.in-Or.is) c.union.ensures.drawn);
}
